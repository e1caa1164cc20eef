-- Bounds that don't fit each other: an error of a kind, at the input, before a part runs.
use Rattle.std.specs.Prelude.{◌≡◌, Bool, ◌⊎◌}
use Rattle.nom_internal.specs.Prelude.{Errors, ErrorKind, Stop, Fails, Meaning}
use Rattle.nom_repeat.specs.Inverted.{HasError, error_outcome}

-- the first fact where the bounds don't fit, and else the second
abbrev pub Where : Type 0 → Type 0 → Type 0 → Type 0
Where IsUnfit P Q = (IsUnfit × P) ⊎ ((IsUnfit → ⊥) × Q)

-- Where the bounds don't fit, a failure (true) or a refusal, with an error of the kind at the input; and else what the part
-- means.
abbrev pub unfit : {I V E : Type 0} → Errors I E → ErrorKind → Bool → Type 0 → Meaning I V E → Meaning I V E
unfit {V = V} errs kind fails IsUnfit m = record {
  Runs = m.Runs;
  IsSound = m.IsSound;
  answers = λ s i o. Where IsUnfit (o ≡ error_outcome fails) (m.answers s i o);
  blames = λ s i e. Where IsUnfit (errs.of_kind i kind e) (m.blames s i e);
  may_run_out = λ mode i. Where IsUnfit (HasError fails mode × errs.grows) (m.may_run_out mode i);
  IsFrugal = λ mode. (IsUnfit → HasError fails mode → errs.grows → ⊥) × ((IsUnfit → ⊥) → m.IsFrugal mode);
  Settles = m.Settles;
  NeverFails = λ cause. (IsUnfit → error_outcome {V = V} fails ≡ Stop (Fails cause) → ⊥) × ((IsUnfit → ⊥) → m.NeverFails cause);
}
