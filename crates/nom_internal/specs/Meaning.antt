-- The meaning of a parser, and the laws of meanings.
use Rattle.std.specs.Prelude.{◌≡◌, ℕ, Bool, true, false, not}
use Rattle.nom_error.specs.Answers.{PResult, IResult}
use Rattle.nom_error.specs.Modes.{Modes, modes}
use Rattle.nom_traits.specs.Input.{Model, IsBoundary, IsSame, Related}
use Rattle.nom_internal.specs.Outcome.{Outcome, IsDecided, ShowsAnswer, ParsesAnswer, Cause}
use Rattle.nom_internal.specs.Outcome.Outcome.{Accept, Stop}
use Rattle.nom_internal.specs.Outcome.Reason.{Fails}
use Rattle.nom_internal.specs.Outcome.Cause.{TooLarge}

-- what a parser over I means, with parse trees V and errors E; its mode is streaming (true) or complete (false)
pub record Meaning (I V E : Type 0) : Type 1 where
  -- the premise of a call: its closures take what they are given, and its parts run
  pub Runs : Type 0
  -- the premise of its laws: its closures answer as fixed functions, and its parts are sound
  pub IsSound : Type 0
  -- its outcome, by mode and input
  pub answers : Bool → I → Outcome V → Type 0
  -- the error that a refusal or a failure holds, by mode and input
  pub blames : Bool → I → E → Type 0
  -- where memory may run out, by what is built, the mode and the input
  pub may_run_out : Modes → I → Type 0
  -- the parser is frugal, so memory never runs out, by what is built
  pub IsFrugal : Modes → Type 0
  -- a decided streaming outcome is the complete one too
  pub Settles : Type 0
  -- it never fails by this cause
  pub NeverFails : Cause → Type 0

-- a meaning with other premises
abbrev pub premised : {I V E : Type 0} → (Runs IsSound : Type 0) → Meaning I V E → Meaning I V E
premised Runs IsSound m = record m { Runs = Runs; IsSound = IsSound }

-- what a parser lacks is never too large, so that a failure is final
abbrev pub NeverTooLarge : {I V E : Type 0} → Meaning I V E → Type 0
NeverTooLarge m = m.NeverFails TooLarge

-- which outcomes a longer input keeps (true), and one equal as a model (false)
abbrev pub Keeps : {V : Type 0} → Bool → Outcome V → Type 0
Keeps true o = IsDecided o
Keeps false o = Unit {0}

module _ {I A : Type 0} (w : Model I A) {V : Type 0} where
  -- on related inputs the first relation's outcome, where it is kept, is the second's
  abbrev pub Agree : Bool → (I → Outcome V → Type 0) → (I → Outcome V → Type 0) → Type 0
  Agree longer P Q = (x y : I) (o p : Outcome V) → w.IsKnown x → w.IsKnown y → Related w longer x y → P x o → Keeps longer o → Q y p → o ≡ p

  -- on inputs equal as models an outcome of the first relation, if only a decided one (true), is one of the second
  abbrev pub Carries : Bool → (I → Outcome V → Type 0) → (I → Outcome V → Type 0) → Type 0
  Carries decided P Q = (x y : I) (o : Outcome V) → w.IsKnown x → w.IsKnown y → IsSame w x y → P x o → Keeps decided o → Q y o

  -- what is accepted is a front
  abbrev pub Within : (I → Outcome V → Type 0) → Type 0
  Within P = (i : I) (n : ℕ) (v : V) → w.IsKnown i → P i (Accept n v) → IsBoundary w i n

-- where both relations decide alike, the first's error is the second's
abbrev pub SameBlame : {I A V E : Type 0} → Model I A → (I → Outcome V → Type 0) → (I → Outcome V → Type 0) → (I → E → Type 0) → (I → E → Type 0) → Type 0
SameBlame {I} {V = V} {E = E} w P Q B C = (i : I) (o : Outcome V) (e : E) → w.IsKnown i → P i o → Q i o → IsDecided o → B i e → C i e

module _ {I A V E : Type 0} (w : Model I A) (m : Meaning I V E) where
  -- the laws of every sound parser
  pub record IsLawful : Type 0 where
    pub within : (s : Bool) → Within w (m.answers s)
    -- inputs that are equal as models have one outcome, and the same
    pub one_outcome : (s : Bool) → Agree w false (m.answers s) (m.answers s)
    pub consistent : (s : Bool) → Carries w false (m.answers s) (m.answers s)
    pub frugal : (mode : Modes) (i : I) → w.IsKnown i → m.IsFrugal mode → m.may_run_out mode i → ⊥
    -- where it settles, a decided streaming outcome is the complete one, and the errors of either mode are the other's
    pub settles : m.Settles → Carries w true (m.answers true) (m.answers false)
    pub blames_consistent : m.Settles → (s : Bool) → SameBlame w (m.answers s) (m.answers (not s)) (m.blames s) (m.blames (not s))
    pub never_fails : (cause : Cause) → m.NeverFails cause → (s : Bool) (i : I) → w.IsKnown i → m.answers s i (Stop (Fails cause)) → ⊥

  -- the law of a stream parser: a decided streaming outcome stays on every longer input
  pub record IsSteady : Type 0 where
    pub stays : Agree w true (m.answers true) (m.answers true)

-- of which no law speaks
module _ {I A V E : Type 0} {w : Model I A} {m : Meaning I V E} {Runs IsSound : Type 0} where
  pub premised_lawful : IsLawful w m → IsLawful w (premised Runs IsSound m)
  premised_lawful l = record {
    within = l.within;
    one_outcome = l.one_outcome;
    consistent = l.consistent;
    frugal = l.frugal;
    settles = l.settles;
    blames_consistent = l.blames_consistent;
    never_fails = l.never_fails;
  }

  pub premised_steady : IsSteady w m → IsSteady w (premised Runs IsSound m)
  premised_steady l = record { stays = l.stays }

-- what `process` returns of a parser that means m, at i: what is built of outputs and errors, and the mode
abbrev pub ShowsMeaning : {I A V O E : Type 0} → Model I A → (V → O → Type 0) → Meaning I V E → Modes → I →
    PResult I O E → Type 0
ShowsMeaning w IsOutput m mode i r = ShowsAnswer w IsOutput mode i (m.answers mode.streaming i) (m.blames mode.streaming i) (m.may_run_out mode i) r

-- what `parse` (true) and `parse_complete` (false) return of it
abbrev pub ParsesMeaning : {I A V O E : Type 0} → Model I A → (V → O → Type 0) → Meaning I V E → Bool → I → IResult I O E → Type 0
ParsesMeaning w IsOutput m s i r = ParsesAnswer w IsOutput i (m.answers s i) (m.blames s i) (m.may_run_out (modes true true s) i) r
