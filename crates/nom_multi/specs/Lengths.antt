-- Lengths, and what stands after them.
use Rattle.std.specs.Prelude.{◌≡◌, ℕ, true, List, Option, Vec}
use Rattle.nom_internal.specs.Prelude.{Errors, modes, with_outputs, Model, Slice, Meaning, Family, of_value, then_meaning, Grammar, IsModelledBy}
use Rattle.nom_bytes.specs.Takes.{take_meaning}
use Rattle.nom_repeat.specs.Items.{items_meaning}
use Rattle.nom_repeat.specs.Bounds.{exact_limits}
use Rattle.std.specs.List.{AllZip}

-- a tree stands for a length: an output of it has that size
pub record HasSize {P O : Type 0} (IsOutput : P → O → Type 0) (size : O → ℕ) (u : P) (n : ℕ) : Type 0 where
  pub output : O
  pub is_output : IsOutput u output
  pub size_is : size output ≡ n

-- A length, and after it what is meant by its number. What the tree of the length stands for is told by its output, so the
-- length is built in every mode.
abbrev pub after_length : {I A P Q T E : Type 0} → (w : Model I A) → (P → Q → T) → (P → ℕ → Type 0) → Meaning I P E → Family ℕ I Q E → Meaning I T E
after_length w tree IsLength a f = then_meaning w tree (with_outputs true) (λ o. o) a (of_value IsLength f)

-- `take` of each number of items
abbrev pub takes_by_count : {I A E : Type 0} → (w : Model I A) → Errors I E → (ℕ → List A → Option ℕ) → Family ℕ I (Slice w) E
takes_by_count w errs lack = record {
  at = take_meaning w errs lack;
  Runs = Unit {0};
  IsSound = Unit {0};
  IsFrugal = λ mode. mode.errors ≡ true → errs.grows → ⊥;
  Settles = Unit {0};
  NeverFails = λ cause. Unit {0};
}

-- a length, and after it that many items, as `take` takes them
abbrev pub length_data_meaning : {I A P E : Type 0} → (w : Model I A) → Errors I E → (ℕ → List A → Option ℕ) → (P → ℕ → Type 0) → Meaning I P E →
    Meaning I (P × Slice w) E
length_data_meaning w errs lack IsLength a = after_length w (λ u t. (u, t)) IsLength a (takes_by_count w errs lack)

-- the items of a part, by their number: a list, which grows by each where outputs are built
abbrev pub items_by_count : {I A V E : Type 0} → (w : Model I A) → Errors I E → Meaning I V E → Family ℕ I (List V) E
items_by_count w errs m = record {
  at = λ n. items_meaning w errs (exact_limits n) (Unit {0}) m;
  Runs = m.Runs;
  IsSound = m.IsSound;
  IsFrugal = λ mode. m.IsFrugal (modes mode.outputs mode.errors mode.streaming) × (mode.outputs ≡ true → ⊥) × (mode.errors ≡ true → errs.grows → ⊥);
  Settles = m.Settles;
  NeverFails = m.NeverFails;
}

-- A length, and after it exactly that many items, which may be empty. Where one is refused, the kind is added after the length.
abbrev pub length_count_meaning : {I A P V E : Type 0} → (w : Model I A) → Errors I E → (P → ℕ → Type 0) → Meaning I P E → Meaning I V E → Meaning I (List V) E
length_count_meaning w errs IsLength a m = after_length w (λ u vs. vs) IsLength a (items_by_count w errs m)

-- a grammar of lengths, and that many items; `size` is what an output of it counts, `lack` what is needed where there are fewer
abbrev pub length_data_of : {I A V O E : Type 0} → (w : Model I A) → Errors I E → (ℕ → List A → Option ℕ) → (O → ℕ) → Grammar I V O E →
    Grammar I (V × Slice w) I E
length_data_of w errs lack size g = record {
  meaning = length_data_meaning w errs lack (HasSize g.IsOutput size) g.meaning;
  IsOutput = λ t o. IsModelledBy w t.1 o;
}

-- a grammar of lengths, and that many items of another
abbrev pub length_count_of : {I A V O U P M E : Type 0} → Model I A → Errors I E → (O → ℕ) → Grammar I V O E → Grammar I U P E →
    Grammar I (List U) (Vec P M) E
length_count_of w errs size g h = record {
  meaning = length_count_meaning w errs (HasSize g.IsOutput size) g.meaning h.meaning;
  IsOutput = λ ts o. AllZip h.IsOutput ts o.items;
}
