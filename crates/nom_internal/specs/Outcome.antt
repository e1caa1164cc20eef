-- The outcome of a parser at an input, and the results of `process` and `parse` for it.
use Rattle.std.specs.Prelude.{◌≡◌, ℕ, Ok, Err, Option}
use Rattle.nom_error.specs.declared.answer.Err.TheVariants.{Incomplete, Error, Failure, OutOfMemory}
use Rattle.nom_error.specs.declared.answer.Needed.{Needed}
use Rattle.nom_error.specs.Answers.{PResult, IResult, size_of}
use Rattle.nom_error.specs.Modes.{Built, Modes}
use Rattle.nom_traits.specs.Input.{Model, IsSuffixOf}

-- why a parser fails: by itself, or since what is lacking doesn't fit a size
pub data Cause : Type 0 where
  Outright : Cause
  TooLarge : Cause

-- why a parser stops: it fails, or more is needed, of a size or, by None, of an unknown one
pub data Reason : Type 0 where
  Fails : Cause → Reason
  Needs : Option ℕ → Reason

-- An acceptance of the first items, of a length, with a parse tree; a refusal, after which another parser may be tried; or a
-- stop, after which none is.
pub data Outcome (V : Type 0) : Type 0 where
  Accept : ℕ → V → Outcome V
  Refuse : Outcome V
  Stop : Reason → Outcome V

-- the outcome with a length and a tree that are made of its own
abbrev pub mapped : {V W : Type 0} → (ℕ → ℕ) → (V → W) → Outcome V → Outcome W
mapped l f (Accept n v) = Accept (l n) (f v)
mapped l f Refuse = Refuse
mapped l f (Stop why) = Stop why

-- settled, whatever more may come: an acceptance, a refusal or an outright failure
abbrev pub IsDecided : {V : Type 0} → Outcome V → Type 0
IsDecided (Accept n v) = Unit {0}
IsDecided Refuse = Unit {0}
IsDecided (Stop (Fails Outright)) = Unit {0}
IsDecided (Stop (Fails TooLarge)) = ⊥
IsDecided (Stop (Needs k)) = ⊥

-- an outcome that holds an error
abbrev pub IsFault : {V : Type 0} → Outcome V → Type 0
IsFault (Accept n v) = ⊥
IsFault Refuse = Unit {0}
IsFault (Stop (Fails cause)) = Unit {0}
IsFault (Stop (Needs k)) = ⊥

-- an outcome whose error is told whether errors are built or not
abbrev pub IsFailure : {V : Type 0} → Outcome V → Type 0
IsFailure (Accept n v) = ⊥
IsFailure Refuse = ⊥
IsFailure (Stop (Fails cause)) = Unit {0}
IsFailure (Stop (Needs k)) = ⊥

-- a part has an outcome of a kind, and the fact holds
pub record OnOutcome {I V : Type 0} (IsKind : Outcome V → Type 0) (Part : I → Outcome V → Type 0) (Fact : Type 0) (i : I) : Type 0 where
  pub outcome : Outcome V
  pub answered : Part i outcome
  pub kind_is : IsKind outcome
  pub fact : Fact

module _ {I A V O E : Type 0} (w : Model I A) (IsOutput : V → O → Type 0) (mode : Modes) (i : I) where
  -- what `process` returns at i for an outcome, with an error of which the fact holds
  abbrev pub ShowsOutcome : (E → Type 0) → Outcome V → PResult I O E → Type 0
  ShowsOutcome IsError (Accept n v) r = (j : I) × (b : Option O) × IsSuffixOf w i n j × Built mode.outputs (IsOutput v) b × (r ≡ Ok (j, b))
  ShowsOutcome IsError Refuse r = (b : Option E) × Built mode.errors IsError b × (r ≡ Err (Error b))
  ShowsOutcome IsError (Stop (Fails cause)) r = (e : E) × IsError e × (r ≡ Err (Failure e))
  ShowsOutcome IsError (Stop (Needs k)) r = (n : Needed) × (size_of n ≡ k) × (r ≡ Err (Incomplete n))

  -- memory ran out, where it may, or an outcome is shown
  pub data ShowsAnswer (Answers : Outcome V → Type 0) (IsError : E → Type 0) (RunsOut : Type 0)
      (r : PResult I O E) : Type 0 where
    RanOut : r ≡ Err OutOfMemory → RunsOut → ShowsAnswer Answers IsError RunsOut r
    Shown : (o : Outcome V) → Answers o → ShowsOutcome IsError o r → ShowsAnswer Answers IsError RunsOut r

module _ {I A V O E : Type 0} (w : Model I A) (IsOutput : V → O → Type 0) (i : I) where
  -- what `parse` returns at i for an outcome: outputs and errors are built
  abbrev pub ParsesOutcome : (E → Type 0) → Outcome V → IResult I O E → Type 0
  ParsesOutcome IsError (Accept n v) r = (j : I) × (b : O) × IsSuffixOf w i n j × IsOutput v b × (r ≡ Ok (j, b))
  ParsesOutcome IsError Refuse r = (e : E) × IsError e × (r ≡ Err (Error e))
  ParsesOutcome IsError (Stop (Fails cause)) r = (e : E) × IsError e × (r ≡ Err (Failure e))
  ParsesOutcome IsError (Stop (Needs k)) r = (n : Needed) × (size_of n ≡ k) × (r ≡ Err (Incomplete n))

  -- memory ran out, where it may, or an outcome is shown
  pub data ParsesAnswer (Answers : Outcome V → Type 0) (IsError : E → Type 0) (RunsOut : Type 0) (r : IResult I O E) : Type 0 where
    ParseRanOut : r ≡ Err OutOfMemory → RunsOut → ParsesAnswer Answers IsError RunsOut r
    Parsed : (o : Outcome V) → Answers o → ParsesOutcome IsError o r → ParsesAnswer Answers IsError RunsOut r
