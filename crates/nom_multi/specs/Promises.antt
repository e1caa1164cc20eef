-- The promises of the repetitions, on their meanings.
use Rattle.std.specs.Prelude.{◌≡◌, ℕ, ◌+◌, ◌<◌, ◌≤◌, ◌↔◌, Bool, List, length}
use Rattle.nom_internal.specs.Prelude.{Model, IsSuffixOf, input_len, Outcome, Accept, Refuse, Meaning}
use Rattle.nom_repeat.specs.Repeat.{Turn, Pieces}
use Rattle.nom_repeat.specs.Repeat.Turn.{Takes, Ends}

-- at a place after the first items of i an item is accepted that consumes nothing
pub record HasEmptyItem {I A V : Type 0} (w : Model I A) (Item : I → Outcome V → Type 0) (i : I) : Type 0 where
  pub taken : ℕ
  pub place : I
  pub rest_is : IsSuffixOf w i taken place
  pub tree : V
  pub accepted : Item place (Accept 0 tree)

-- a refusal of a repetition of the part m comes only of an item that is accepted without consuming
abbrev pub RefusesAtEmpty : {I A V E : Type 0} → Model I A → Meaning I V E → Meaning I (List V) E → Type 0
RefusesAtEmpty {I} w m whole = (s : Bool) (i : I) → w.IsKnown i → whole.answers s i Refuse → HasEmptyItem w (m.answers s) i

-- no more items than the input is long
abbrev pub HasFewItems : {I A V E : Type 0} → Model I A → Meaning I (List V) E → Type 0
HasFewItems {I} {V = V} w whole = (s : Bool) (i : I) (n : ℕ) (vs : List V) → w.IsKnown i → whole.answers s i (Accept n vs) → length vs ≤ input_len w i

-- an item is taken where the end refuses and the part accepts, and consumes
abbrev pub TakesBefore : {I T V : Type 0} → (I → Outcome T → Type 0) → (I → Outcome V → Type 0) → ℕ → I → Turn V (Unit {0}) → Type 0
TakesBefore End Item k i (Takes n v) = End i Refuse × Item i (Accept n v) × (0 < n)
TakesBefore End Item k i (Ends o) = ⊥

-- items in turn, where the end refuses, and then the end
pub record ItemsAndEnd {I A T V : Type 0} (w : Model I A) (End : I → Outcome T → Type 0) (Item : I → Outcome V → Type 0) (i : I) (n : ℕ) (vs : List V)
    (t : T) : Type 0 where
  pub taken : ℕ
  pub end_length : ℕ
  pub items : Pieces w (TakesBefore End Item) (λ _ j. End j (Accept end_length t)) 0 i vs taken
  pub length_is : n ≡ taken + end_length

-- What a list of the part m until an end accepts: just the items and the end.
abbrev pub AcceptsUntil : {I A T V E : Type 0} → Model I A → Meaning I V E → Meaning I T E → Meaning I (List V × T) E → Type 0
AcceptsUntil {I} {T = T} {V = V} w m end whole =
    (s : Bool) (i : I) (n : ℕ) (vs : List V) (t : T) → whole.answers s i (Accept n (vs, t)) ↔ ItemsAndEnd w (end.answers s) (m.answers s) i n vs t
