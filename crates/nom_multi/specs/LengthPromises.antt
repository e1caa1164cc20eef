-- The promises of a list after its length, on the meanings.
use Rattle.std.specs.Prelude.{◌≡◌, ℕ, ◌+◌, ◌↔◌, Bool, Some, List}
use Rattle.nom_internal.specs.Prelude.{Model, IsSuffixOf, Outcome, Accept, Meaning}
use Rattle.nom_repeat.specs.Accepted.{InTurn}

-- a length, and after it just that many items in turn, of any length
pub record CountedItems {I A P V : Type 0} (w : Model I A) (Length : I → Outcome P → Type 0) (IsCount : P → ℕ → Type 0) (Item : I → Outcome V → Type 0)
    (i : I) (n : ℕ) (vs : List V) : Type 0 where
  pub first_length : ℕ
  pub tree : P
  pub count : ℕ
  pub rest : I
  pub items_length : ℕ
  pub accepted : Length i (Accept first_length tree)
  pub count_is : IsCount tree count
  pub rest_is : IsSuffixOf w i first_length rest
  pub items : InTurn w Item (λ _. Unit {0}) count (Some count) rest items_length vs
  pub length_is : n ≡ first_length + items_length

-- What a list of the part m after a length accepts: a length of the part a, and just that many items as its tree stands for.
abbrev pub AcceptsCounted : {I A P V E : Type 0} → Model I A → (P → ℕ → Type 0) → Meaning I P E → Meaning I V E → Meaning I (List V) E → Type 0
AcceptsCounted {I} {V = V} w IsCount a m whole =
    (s : Bool) (i : I) (n : ℕ) (vs : List V) → whole.answers s i (Accept n vs) ↔ CountedItems w (a.answers s) IsCount (m.answers s) i n vs
