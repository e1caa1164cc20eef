-- The run of an input, parsed. How many items it may have is a bound: Some of a number, or None, as many as there are.
use Rattle.std.specs.Prelude.{◌≡◌, ℕ, ◌-◌, ◌<◌, ◌≤◌, max, Bool, true, false, ◌⊎◌, length, Option, Some, None}
use Rattle.std.specs.List.{All}
use Rattle.nom_internal.specs.Prelude.{ErrorKind, Errors, Model, input_len, Slice, IsFirst, Stops, Meaning, Leaf, leaf_meaning}
use Rattle.nom_error.specs.declared.kind.ErrorKind.TheVariants as Kind

-- no more than the bound
abbrev pub IsWithinBound : Option ℕ → ℕ → Type 0
IsWithinBound (Some most) count = count ≤ most
IsWithinBound None count = Unit {0}

-- as many as the bound
abbrev pub IsAtBound : Option ℕ → ℕ → Type 0
IsAtBound (Some most) count = count ≡ most
IsAtBound None count = ⊥

-- Whether a run of `count` items is enough, where `after` more stand after it: it has the least number, or it ends at the bound before an item.
abbrev pub IsEnough : (least : ℕ) (bound : Option ℕ) (count after : ℕ) → Type 0
IsEnough least bound count after = (least ≤ count) ⊎ (IsAtBound bound count × (0 < after))

-- Test is what the test answers at an item: true where the item meets it.
module _ {I A : Type 0} (w : Model I A) (Test : A → Bool → Type 0) (bound : Option ℕ) where
  -- The slice is the run of i, of length n: the longest list of first items, no more than the bound, that all meet the test. Where more
  -- may come, an item follows it, since more might make it longer.
  pub record IsRunSlice (streaming : Bool) (i : I) (n : ℕ) (t : Slice w) : Type 0 where
    pub first : IsFirst w i n t
    pub meets : All (λ x. Test x true) t.items
    pub bounded : IsWithinBound bound (length t.items)
    pub stops : Stops (λ x. IsAtBound bound (length t.items) ⊎ Test x false) first.rest
    pub followed : streaming ≡ true → 0 < length first.rest

  -- The run, where it is enough, and else a refusal. Where more may come and might make it longer, more is needed: what the input's length
  -- lacks of the number that is wanted at least, and 1 at least.
  abbrev pub runs : (least : ℕ) → Leaf I (Slice w)
  runs least = record {
    Accepts = λ s i n t. (r : IsRunSlice s i n t) × IsEnough least bound (length t.items) (length r.first.rest);
    Refuses = λ s i. (n : ℕ) × (t : Slice w) × (r : IsRunSlice s i n t) × (IsEnough least bound (length t.items) (length r.first.rest) → ⊥);
    Lacks = λ i k. All (λ x. Test x true) (w.elements i) × IsWithinBound bound (length (w.elements i)) × (k ≡ Some (max 1 (least - input_len w i)));
  }

module _ {I A : Type 0} (w : Model I A) (Test : A → Bool → Type 0) where
  -- a run that may be empty: nothing is refused
  abbrev pub run_meaning : {E : Type 0} → Meaning I (Slice w) E
  run_meaning = leaf_meaning (λ _ _. ⊥) ⊥ (runs w Test None 0)

  -- a run of one item at least
  abbrev pub run1_meaning : {E : Type 0} → Errors I E → ErrorKind → Meaning I (Slice w) E
  run1_meaning errs kind = leaf_meaning (λ i. errs.of_kind i kind) errs.grows (runs w Test None 1)

  abbrev pub bounded_meaning : {E : Type 0} → Errors I E → (least most : ℕ) → Meaning I (Slice w) E
  bounded_meaning errs least most = leaf_meaning (λ i. errs.of_kind i Kind.TakeWhileMN) errs.grows (runs w Test (Some most) least)

module _ {I A : Type 0} (w : Model I A) (Test : A → Bool → Type 0) (most : ℕ) where
  -- how far a run under a bound reaches, and how many items it has: to an item that follows it, or through all of the input
  abbrev pub Reaches : I → Option ℕ → ℕ → Type 0
  Reaches i (Some n) count = (t : Slice w) × IsRunSlice w Test (Some most) true i n t × (length t.items ≡ count)
  Reaches i None count = All (λ x. Test x true) (w.elements i) × (length (w.elements i) ≡ count) × (count ≤ most)
