-- The words of lists with a separator between their items.
use Rattle.std.specs.Prelude.{◌≡◌, Vec}
use Rattle.std.proofs.Common.{ap₂}
use Rattle.nom_error.specs.Errors.{Errors}
use Rattle.nom_traits.specs.Input.{Model}
use Rattle.nom_internal.specs.Word.{Word, word}
use Rattle.nom_separated.specs.Separated as Separated

module _ {I A S O M E : Type 0} (w : Model I A) (errs : Errors I E) where
  pub separated_list0_of : Word I S E → Word I O E → Word I (Vec O M) E
  separated_list0_of sep g = word (Separated.separated_list0_of w errs sep.grammar g.grammar)

  module _ {g h : Word I S E} {k l : Word I O E} where
    pub separated_list0_worded : g ≡ h → k ≡ l → separated_list0_of g k ≡ word (Separated.separated_list0_of w errs h.grammar l.grammar)
    unfolding separated_list0_of
    separated_list0_worded p q = ap₂ separated_list0_of p q

    pub separated_list0_same : g ≡ h → k ≡ l → separated_list0_of g k ≡ separated_list0_of h l
    separated_list0_same p q = ap₂ separated_list0_of p q

  pub separated_list1_of : Word I S E → Word I O E → Word I (Vec O M) E
  separated_list1_of sep g = word (Separated.separated_list1_of w errs sep.grammar g.grammar)

  module _ {g h : Word I S E} {k l : Word I O E} where
    pub separated_list1_worded : g ≡ h → k ≡ l → separated_list1_of g k ≡ word (Separated.separated_list1_of w errs h.grammar l.grammar)
    unfolding separated_list1_of
    separated_list1_worded p q = ap₂ separated_list1_of p q

    pub separated_list1_same : g ≡ h → k ≡ l → separated_list1_of g k ≡ separated_list1_of h l
    separated_list1_same p q = ap₂ separated_list1_of p q
