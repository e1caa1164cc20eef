-- The words of choices.
use Rattle.std.specs.Prelude.{◌≡◌, List}
use Rattle.std.proofs.Common.{refl, ap, ap₂}
use Rattle.nom_error.specs.Errors.{Errors}
use Rattle.nom_internal.specs.Word.{Word, Words, word}
use Rattle.nom_branch.specs.Alternatives as Alternatives
use Rattle.nom_choose.specs.Lists as Lists

module _ {I O E : Type 0} (errs : Errors I E) where
  -- one branch, and where it refuses another; all branches together are closed by `alt_of`
  pub or_of : Word I O E → Word I O E → Word I O E
  or_of g h = word (Alternatives.or_of errs g.grammar h.grammar)

  module _ {g h k l : Word I O E} where
    pub or_worded : g ≡ h → k ≡ l → or_of g k ≡ word (Alternatives.or_of errs h.grammar l.grammar)
    unfolding or_of
    or_worded p q = ap₂ or_of p q

    pub or_same : g ≡ h → k ≡ l → or_of g k ≡ or_of h l
    or_same p q = ap₂ or_of p q

  pub alt_of : Word I O E → Word I O E
  alt_of g = word (Alternatives.alt_of errs g.grammar)

  module _ {g h : Word I O E} where
    pub alt_worded : g ≡ h → alt_of g ≡ word (Alternatives.alt_of errs h.grammar)
    unfolding alt_of
    alt_worded p = ap alt_of p

    pub alt_same : g ≡ h → alt_of g ≡ alt_of h
    alt_same p = ap alt_of p

-- the branches of a list, by their states: an array or a slice of parsers of one type
module _ {I S O E : Type 0} (errs : Errors I E) (k : Words S I O E) where
  pub list_of : List S → Word I O E
  list_of ss = word (Lists.list_of errs k.grammar ss)

  pub list_worded : (ss : List S) → list_of ss ≡ word (Lists.list_of errs k.grammar ss)
  unfolding list_of
  list_worded ss = refl

  pub list_same : {ss ss' : List S} → ss ≡ ss' → list_of ss ≡ list_of ss'
  list_same q = ap list_of q
