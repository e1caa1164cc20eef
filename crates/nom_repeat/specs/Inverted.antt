-- Bounds that don't fit each other: an error of a kind, at the input, before a part runs.
use Rattle.std.specs.Prelude.{◌≡◌, Bool, true, false, ◌⊎◌, Option}
use Rattle.nom_internal.specs.Prelude.{Errors, Modes, ErrorKind, Needed, Failure, OutOfMemory, Outcome, Refuse, Stop, Fails, Outright, Meaning}
use Rattle.nom_error.specs.declared.answer.Err as Answer

-- the first fact where the test holds, and else the second
abbrev pub IfThenElse : Bool → Type 0 → Type 0 → Type 0
IfThenElse true P Q = P
IfThenElse false P Q = Q

-- a failure (true) or a refusal (false)
abbrev pub error_outcome : {V : Type 0} → Bool → Outcome V
error_outcome true = Stop (Fails Outright)
error_outcome false = Refuse

-- its error is built: a failure's always
abbrev pub HasError : Bool → Modes → Type 0
HasError true mode = Unit {0}
HasError false mode = mode.errors ≡ true

-- Where the test holds, a failure (true) or a refusal, with an error of the kind at the input; and else what the part means.
abbrev pub error_if : {I V E : Type 0} → Errors I E → ErrorKind → Bool → Bool → Meaning I V E → Meaning I V E
error_if {V = V} errs kind fails test m = record {
  Runs = m.Runs;
  IsSound = m.IsSound;
  answers = λ s i o. IfThenElse test (o ≡ error_outcome fails) (m.answers s i o);
  blames = λ s i e. IfThenElse test (errs.of_kind i kind e) (m.blames s i e);
  may_run_out = λ mode i. IfThenElse test (HasError fails mode × errs.grows) (m.may_run_out mode i);
  IsFrugal = λ mode. IfThenElse test (HasError fails mode → errs.grows → ⊥) (m.IsFrugal mode);
  Settles = m.Settles;
  NeverFails = λ cause. IfThenElse test (error_outcome {V = V} fails ≡ Stop (Fails cause) → ⊥) (m.NeverFails cause);
}

-- a failure, with its error, or there is no memory for it
abbrev pub GivesFailure : {E : Type 0} → (E → Type 0) → Type 0 → Answer.Err E (Option E) Needed → Type 0
GivesFailure {E} Gives Grows r = ((r ≡ OutOfMemory) × Grows) ⊎ ((e : E) × Gives e × (r ≡ Failure e))
