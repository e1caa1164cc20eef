-- The words of what stands after a length; `size` is what an output of the length counts.
use Rattle.std.specs.Prelude.{◌≡◌, ℕ, List, Option, Vec}
use Rattle.std.proofs.Common.{ap, ap₂}
use Rattle.nom_error.specs.Errors.{Errors}
use Rattle.nom_traits.specs.Input.{Model}
use Rattle.nom_internal.specs.Word.{Word, word}
use Rattle.nom_multi.specs.Lengths as Lengths
use Rattle.nom_multi.specs.Values as Values

-- `lack` is what is needed where there are fewer items
module _ {I A O E : Type 0} (w : Model I A) (errs : Errors I E) (lack : ℕ → List A → Option ℕ) (size : O → ℕ) where
  pub length_data_of : Word I O E → Word I I E
  length_data_of g = word (Lengths.length_data_of w errs lack size g.grammar)

  module _ {g h : Word I O E} where
    pub length_data_worded : g ≡ h → length_data_of g ≡ word (Lengths.length_data_of w errs lack size h.grammar)
    unfolding length_data_of
    length_data_worded p = ap length_data_of p

    pub length_data_same : g ≡ h → length_data_of g ≡ length_data_of h
    length_data_same p = ap length_data_of p

module _ {I A O P M E : Type 0} (w : Model I A) (errs : Errors I E) (size : O → ℕ) where
  pub length_count_of : Word I O E → Word I P E → Word I (Vec P M) E
  length_count_of g h = word (Lengths.length_count_of w errs size g.grammar h.grammar)

  module _ {g h : Word I O E} {k l : Word I P E} where
    pub length_count_worded : g ≡ h → k ≡ l → length_count_of g k ≡ word (Lengths.length_count_of w errs size h.grammar l.grammar)
    unfolding length_count_of
    length_count_worded p q = ap₂ length_count_of p q

    pub length_count_same : g ≡ h → k ≡ l → length_count_of g k ≡ length_count_of h l
    length_count_same p q = ap₂ length_count_of p q

module _ {I A O P E : Type 0} (w : Model I A) (errs : Errors I E) (size : O → ℕ) where
  pub length_value_of : Word I O E → Word I P E → Word I P E
  length_value_of g h = word (Values.length_value_of w errs size g.grammar h.grammar)

  module _ {g h : Word I O E} {k l : Word I P E} where
    pub length_value_worded : g ≡ h → k ≡ l → length_value_of g k ≡ word (Values.length_value_of w errs size h.grammar l.grammar)
    unfolding length_value_of
    length_value_worded p q = ap₂ length_value_of p q

    pub length_value_same : g ≡ h → k ≡ l → length_value_of g k ≡ length_value_of h l
    length_value_same p q = ap₂ length_value_of p q
