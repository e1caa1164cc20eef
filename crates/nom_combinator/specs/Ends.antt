-- Parsers that look at no item, and those of all that is left.
use Rattle.std.specs.Prelude.{◌≡◌, ℕ, true, false, []}
use Rattle.nom_internal.specs.Prelude.{with_outputs, Errors, Model, input_len, Slice, Meaning, Leaf, leaf_meaning, sequence_meaning, success_meaning, Grammar}
use Rattle.nom_error.specs.declared.kind.ErrorKind.TheVariants as Kind

-- Nothing is consumed, and a value is given, of which a clone is made where outputs are built; that may take memory, where it
-- isn't sure to be there.
abbrev pub clone_meaning : {I V E : Type 0} → V → Type 0 → Meaning I V E
clone_meaning v IsSure = record (success_meaning v) {
  may_run_out = λ mode i. (mode.outputs ≡ true) × ¬ IsSure;
  IsFrugal = λ mode. mode.outputs ≡ true → IsSure;
}

-- every input is refused
abbrev pub fail_leaf : {I V : Type 0} → Leaf I V
fail_leaf = record {
  Accepts = λ s i n v. ⊥;
  Refuses = λ s i. Unit {0};
  Lacks = λ i k. ⊥;
}

-- with the kind Fail
abbrev pub fail_meaning : {I V E : Type 0} → Errors I E → Meaning I V E
fail_meaning errs = leaf_meaning (λ i e. errs.of_kind i Kind.Fail e) errs.grows fail_leaf

-- what is accepted and what is refused, alike in both modes
abbrev pub plain_leaf : {I V : Type 0} → (I → ℕ → V → Type 0) → (I → Type 0) → Leaf I V
plain_leaf Accepts Refuses = record {
  Accepts = λ s. Accepts;
  Refuses = λ s. Refuses;
  Lacks = λ i k. ⊥;
}

module _ {I A : Type 0} (w : Model I A) where
  -- an input, as its model
  abbrev pub all_of : I → Slice w
  all_of i = record { items = w.elements i; mark = w.mark i }

  -- no item is left: an input without one, with itself as tree
  abbrev pub IsEnd : I → ℕ → Slice w → Type 0
  IsEnd i n t = (w.elements i ≡ []) × (n ≡ 0) × (t ≡ all_of i)

  -- all items are taken
  abbrev pub IsAll : I → ℕ → Slice w → Type 0
  IsAll i n t = (n ≡ input_len w i) × (t ≡ all_of i)

  -- none is taken, and the tree is the input's length
  abbrev pub IsLength : I → ℕ → ℕ → Type 0
  IsLength i n t = (n ≡ 0) × (t ≡ input_len w i)

  -- an input with an item is refused with the kind Eof
  abbrev pub eof_meaning : {E : Type 0} → Errors I E → Meaning I (Slice w) E
  eof_meaning errs = leaf_meaning (λ i e. errs.of_kind i Kind.Eof e) errs.grows (plain_leaf IsEnd (λ i. w.elements i ≡ [] → ⊥))

  -- a part, and then the end, with the part's tree: what is left after it is refused there
  abbrev pub all_consuming_meaning : {V E : Type 0} → Errors I E → Meaning I V E → Meaning I V E
  all_consuming_meaning errs m = sequence_meaning w (λ u v. u) (λ o. o) (with_outputs false) m (eof_meaning errs)

  abbrev pub rest_meaning : {E : Type 0} → Meaning I (Slice w) E
  rest_meaning = leaf_meaning (λ i e. ⊥) ⊥ (plain_leaf IsAll (λ i. ⊥))

  abbrev pub rest_len_meaning : {E : Type 0} → Meaning I ℕ E
  rest_len_meaning = leaf_meaning (λ i e. ⊥) ⊥ (plain_leaf IsLength (λ i. ⊥))

-- a grammar, and then the end
abbrev pub all_consuming_of : {I A V O E : Type 0} → Model I A → Errors I E → Grammar I V O E → Grammar I V O E
all_consuming_of w errs g = record { meaning = all_consuming_meaning w errs g.meaning; IsOutput = g.IsOutput }
