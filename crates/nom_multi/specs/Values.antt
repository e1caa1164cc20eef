-- A value after a length, on exactly that much of the input.
use Rattle.std.specs.Prelude.{◌≡◌, ℕ, ◌-◌, ◌<◌, ◌≤◌, Bool, true, ◌⊎◌, Option, Some, Result, Ok, Err}
use Rattle.nom_internal.specs.Prelude.{Errors, Refuses, Needed, Incomplete, Error, Failure, OutOfMemory, Model, IsBoundary, input_len, Slice, IsFirst, Grammar}
use Rattle.nom_internal.specs.Prelude.{IsModelledBy, Outcome, Accept, Refuse, Stop, Fails, Needs, Meaning, fixed_meaning, Family, Leaf, leaf_meaning}
use Rattle.nom_error.specs.declared.answer.Err as Answer
use Rattle.nom_error.specs.declared.kind.ErrorKind.TheVariants as Kind
use Rattle.nom_internal.specs.Bounded.{and_then_meaning}
use Rattle.nom_multi.specs.Lengths.{after_length, HasSize}

-- the first items, of the length n together; a refusal, where that is no place; and what is lacking is needed
abbrev pub cuts : {I A : Type 0} (w : Model I A) → ℕ → Leaf I (Slice w)
cuts w n = record {
  Accepts = λ s i m t. IsFirst w i m t × (m ≡ n);
  Refuses = λ s i. (n ≤ input_len w i) × (IsBoundary w i n → ⊥);
  Lacks = λ i k. (input_len w i < n) × (k ≡ Some (n - input_len w i));
}

-- in both modes as where more may come
abbrev pub window_meaning : {I A E : Type 0} (w : Model I A) → Errors I E → ℕ → Meaning I (Slice w) E
window_meaning w errs n = fixed_meaning true (leaf_meaning (λ i. errs.of_kind i Kind.LengthValue) errs.grows (cuts w n))

-- an outcome on all that there is: where more is needed, a refusal
abbrev pub settled : {V : Type 0} → Outcome V → Outcome V
settled (Accept n v) = Accept n v
settled Refuse = Refuse
settled (Stop (Fails cause)) = Stop (Fails cause)
settled (Stop (Needs k)) = Refuse

-- that refusal's error is of its own, and every other the part's
abbrev pub SettledBlames : {V E : Type 0} → (E → Type 0) → (E → Type 0) → Outcome V → E → Type 0
SettledBlames Own Part (Accept n v) e = Part e
SettledBlames Own Part Refuse e = Part e
SettledBlames Own Part (Stop (Fails cause)) e = Part e
SettledBlames Own Part (Stop (Needs k)) e = Own e

-- A part on all that there is, in the mode that is asked for. What it refuses since more is missing, where more may come, it may
-- accept in the complete mode: so it doesn't settle.
abbrev pub settled_meaning : {I V E : Type 0} → Errors I E → Meaning I V E → Meaning I V E
settled_meaning {V = V} errs m = record {
  Runs = m.Runs;
  IsSound = m.IsSound;
  answers = λ s i o. (a : Outcome V) × m.answers s i a × (o ≡ settled a);
  blames = λ s i e. (a : Outcome V) × m.answers s i a × SettledBlames (errs.of_kind i Kind.Complete) (m.blames s i) a e;
  may_run_out = λ mode i. m.may_run_out mode i ⊎ ((k : Option ℕ) × m.answers mode.streaming i (Stop (Needs k)) × (mode.errors ≡ true) × errs.grows);
  IsFrugal = λ mode. m.IsFrugal mode × (mode.errors ≡ true → errs.grows → ⊥);
  Settles = ⊥;
  NeverFails = m.NeverFails;
}

-- what is returned on all that there is, by what a part returned
abbrev pub SettlesResult : {T E : Type 0} → (E → Type 0) → Type 0 → Bool → Result T (Answer.Err E (Option E) Needed) →
    Result T (Answer.Err E (Option E) Needed) → Type 0
SettlesResult Own Grows errors (Ok v) r = r ≡ Ok v
SettlesResult {E = E} Own Grows errors (Err (Incomplete k)) r = (f : Answer.Err E (Option E) Needed) × Refuses Own Grows errors f × (r ≡ Err f)
SettlesResult Own Grows errors (Err (Error e)) r = r ≡ Err (Error e)
SettlesResult Own Grows errors (Err (Failure e)) r = r ≡ Err (Failure e)
SettlesResult Own Grows errors (Err OutOfMemory) r = r ≡ Err OutOfMemory

-- a part on the first items, by their length
abbrev pub values_by_length : {I A V E : Type 0} → (w : Model I A) → Errors I E → Meaning I V E → Family ℕ I V E
values_by_length w errs m = record {
  at = λ n. and_then_meaning w w (IsModelledBy w) (window_meaning w errs n) (settled_meaning errs m);
  Runs = m.Runs;
  IsSound = m.IsSound;
  IsFrugal = λ mode. m.IsFrugal mode × (mode.errors ≡ true → errs.grows → ⊥);
  Settles = ⊥;
  NeverFails = m.NeverFails;
}

-- a length, and after it a part on exactly that much
abbrev pub length_value_meaning : {I A P V E : Type 0} → (w : Model I A) → Errors I E → (P → ℕ → Type 0) → Meaning I P E → Meaning I V E → Meaning I V E
length_value_meaning w errs IsLength a m = after_length w (λ u t. t) IsLength a (values_by_length w errs m)

-- a grammar of lengths, and another on exactly that much
abbrev pub length_value_of : {I A V O U P E : Type 0} → Model I A → Errors I E → (O → ℕ) → Grammar I V O E → Grammar I U P E → Grammar I U P E
length_value_of w errs size g h = record {
  meaning = length_value_meaning w errs (HasSize g.IsOutput size) g.meaning h.meaning;
  IsOutput = h.IsOutput;
}
