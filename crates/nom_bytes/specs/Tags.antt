-- Tags.
use Rattle.std.specs.Prelude.{◌≡◌, ℕ, ◌-◌, Bool, true, false, ◌⊎◌, List, Some}
use Rattle.nom_error.specs.declared.kind.ErrorKind.TheVariants as Kind
use Rattle.nom_internal.specs.Prelude.{Errors, CompareResult, Model, input_len, Slice, IsFirst, Meaning, Leaf, leaf_meaning}
use Rattle.nom_traits.specs.declared.compare.CompareResult.TheVariants as Compared

-- how lists compare with a tag: as they are, or without regard to the case of ASCII letters
abbrev pub compares_by : {T L : Type 0} → (Compares Ignores : T → L → CompareResult → Type 0) → (ignores_case : Bool) → T → L → CompareResult → Type 0
compares_by Compares Ignores false = Compares
compares_by Compares Ignores true = Ignores

module _ {I A : Type 0} (w : Model I A) where
  -- a tag that is a front; where the input is a proper front of the tag, what is lacking is needed, or in the complete mode it is refused; else it is refused
  abbrev pub tags : {T : Type 0} → (size : T → ℕ) → (T → List A → CompareResult → Type 0) → T → Leaf I (Slice w)
  tags size Compares tag = record {
    Accepts = λ s i n t. (n ≡ size tag) × IsFirst w i n t × Compares tag (w.elements i) Compared.Ok;
    Refuses = λ s i. Compares tag (w.elements i) Compared.Error ⊎ ((s ≡ false) × Compares tag (w.elements i) Compared.Incomplete);
    Lacks = λ i k. Compares tag (w.elements i) Compared.Incomplete × (k ≡ Some (size tag - input_len w i));
  }

  abbrev pub tag_meaning : {T E : Type 0} → Errors I E → (size : T → ℕ) → (T → List A → CompareResult → Type 0) → T → Meaning I (Slice w) E
  tag_meaning errs size Compares tag = leaf_meaning (λ i. errs.of_kind i Kind.Tag) errs.grows (tags size Compares tag)
