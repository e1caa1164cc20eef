-- The words of two parts in sequence, one of them for its place alone.
use Rattle.std.specs.Prelude.{◌≡◌}
use Rattle.std.proofs.Common.{ap₂}
use Rattle.nom_traits.specs.Input.{Model}
use Rattle.nom_internal.specs.Words.{pair_of}
use Rattle.nom_internal.specs.Word.{Word, word}
use Rattle.nom_sequence.specs.Sequences as Sequences

module _ {I A E : Type 0} (w : Model I A) {O P : Type 0} where
  pub preceded_of : Word I O E → Word I P E → Word I P E
  preceded_of g h = word (Sequences.preceded_of w g.grammar h.grammar)

  module _ {g h : Word I O E} {k l : Word I P E} where
    pub preceded_worded : g ≡ h → k ≡ l → preceded_of g k ≡ word (Sequences.preceded_of w h.grammar l.grammar)
    unfolding preceded_of
    preceded_worded p q = ap₂ preceded_of p q

    pub preceded_same : g ≡ h → k ≡ l → preceded_of g k ≡ preceded_of h l
    preceded_same p q = ap₂ preceded_of p q

  pub terminated_of : Word I O E → Word I P E → Word I O E
  terminated_of g h = word (Sequences.terminated_of w g.grammar h.grammar)

  module _ {g h : Word I O E} {k l : Word I P E} where
    pub terminated_worded : g ≡ h → k ≡ l → terminated_of g k ≡ word (Sequences.terminated_of w h.grammar l.grammar)
    unfolding terminated_of
    terminated_worded p q = ap₂ terminated_of p q

    pub terminated_same : g ≡ h → k ≡ l → terminated_of g k ≡ terminated_of h l
    terminated_same p q = ap₂ terminated_of p q

module _ {I A O S P E : Type 0} (w : Model I A) where
  abbrev pub separated_pair_of : Word I O E → Word I S E → Word I P E → Word I (O × P) E
  separated_pair_of g sep h = pair_of w g (preceded_of w sep h)

  abbrev pub delimited_of : Word I O E → Word I P E → Word I S E → Word I P E
  delimited_of g h k = preceded_of w g (terminated_of w h k)
