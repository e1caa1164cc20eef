-- A meaning whose premises are told at once, in place of those that its definition gathers.
use Rattle.nom.specs.Prelude.{Modes, Model, Meaning, IsLawful, IsSteady, Cause}

-- when a parser runs, is sound, frugal, settles, and never fails
pub record Premises : Type 1 where
  pub Runs : Type 0
  pub IsSound : Type 0
  pub IsFrugal : Modes → Type 0
  pub Settles : Type 0
  pub NeverFails : Cause → Type 0

-- the same answers, errors and running out of memory
abbrev pub with_premises : {I V E : Type 0} → Premises → Meaning I V E → Meaning I V E
with_premises p m = record m { Runs = p.Runs; IsSound = p.IsSound; IsFrugal = p.IsFrugal; Settles = p.Settles; NeverFails = p.NeverFails }

-- what is told gives what the definition gathers
pub record Gives {I V E : Type 0} (p : Premises) (m : Meaning I V E) : Type 0 where
  pub frugal : (mode : Modes) → p.IsFrugal mode → m.IsFrugal mode
  pub settles : p.Settles → m.Settles
  pub never_fails : (cause : Cause) → p.NeverFails cause → m.NeverFails cause

module _ {I A V E : Type 0} {w : Model I A} {p : Premises} {m : Meaning I V E} where
  pub told_lawful : Gives p m → IsLawful w m → IsLawful w (with_premises p m)
  told_lawful g l = record {
    within = l.within;
    one_outcome = l.one_outcome;
    consistent = l.consistent;
    frugal = λ mode i k h. l.frugal mode i k (g.frugal mode h);
    settles = λ h. l.settles (g.settles h);
    blames_consistent = λ h. l.blames_consistent (g.settles h);
    never_fails = λ cause h. l.never_fails cause (g.never_fails cause h);
  }

  pub told_steady : IsSteady w m → IsSteady w (with_premises p m)
  told_steady l = record { stays = l.stays }
