-- Items up to the first place of a needle.
use Rattle.std.specs.Prelude.{◌≡◌, ℕ, ◌<◌, Bool, true, false, ◌⊎◌, List, Option, Some, None}
use Rattle.nom_error.specs.declared.kind.ErrorKind.TheVariants as Kind
use Rattle.nom_internal.specs.Prelude.{Errors, Model, Slice, IsFirst, Meaning, Leaf, leaf_meaning}

module _ {I A : Type 0} (w : Model I A) where
  -- The items before the first place of a needle, and at least one where that is asked for: else it is refused. Where there
  -- is no such place, more is needed, and none can tell how much; in the complete mode it is refused.
  abbrev pub untils : {T : Type 0} → (T → List A → Option ℕ → Type 0) → (one : Bool) → T → Leaf I (Slice w)
  untils Finds one needle = record {
    Accepts = λ s i n t. IsFirst w i n t × Finds needle (w.elements i) (Some n) × (one ≡ true → 0 < n);
    Refuses = λ s i. ((s ≡ false) × Finds needle (w.elements i) None) ⊎ ((one ≡ true) × Finds needle (w.elements i) (Some 0));
    Lacks = λ i k. Finds needle (w.elements i) None × (k ≡ None);
  }

  abbrev pub until_meaning : {T E : Type 0} → Errors I E → (T → List A → Option ℕ → Type 0) → (one : Bool) → T → Meaning I (Slice w) E
  until_meaning errs Finds one needle = leaf_meaning (λ i. errs.of_kind i Kind.TakeUntil) errs.grows (untils Finds one needle)
