-- The promises of every parser, on its meaning and on its answers.
use Rattle.std.specs.Prelude.{◌≡◌, ℕ, Bool, true, false, ◌⊎◌, Ok, Err}
use Rattle.nom_internal.specs.Prelude.{Needed, Incomplete, Error, Failure, OutOfMemory, IResult, size_of, Modes, Model, Extends, IsSame, IsBoundary, IsSuffixOf}
use Rattle.nom_internal.specs.Prelude.{View, Outcome, Accept, Stop, Fails, TooLarge, IsDecided, Meaning, ParsesMeaning, Cause}

module _ {I A V E : Type 0} (w : Model I A) (m : Meaning I V E) where
  -- a decided streaming outcome on an input is the one outcome on every input that extends it
  abbrev pub StaysOnLonger : Type 0
  StaysOnLonger = (x y : I) (o p : Outcome V) → w.IsKnown x → w.IsKnown y → Extends w x y → m.answers true x o → IsDecided o → m.answers true y p → o ≡ p

  -- an outcome on an input is the one outcome on every input that is equal as models
  abbrev pub HasOneOutcome : Type 0
  HasOneOutcome = (s : Bool) (x y : I) (o : Outcome V) → w.IsKnown x → w.IsKnown y → IsSame w x y → m.answers s x o → m.answers s y o ×
      ((p : Outcome V) → m.answers s y p → o ≡ p)

  -- what is accepted is a front of the input
  abbrev pub AcceptsFronts : Type 0
  AcceptsFronts = (s : Bool) (i : I) (n : ℕ) (v : V) → w.IsKnown i → m.answers s i (Accept n v) → IsBoundary w i n

  -- a decided streaming outcome is the complete one, and the errors of the one are those of the other
  abbrev pub IsCompleteToo : Type 0
  IsCompleteToo = (i : I) (o : Outcome V) → w.IsKnown i → m.answers true i o → IsDecided o → m.answers false i o ×
      ((e : E) → m.blames true i e → m.blames false i e) × ((e : E) → m.blames false i e → m.blames true i e)

  -- where a parser is frugal, memory never runs out
  abbrev pub NeverRunsOut : Type 0
  NeverRunsOut = (mode : Modes) (i : I) → w.IsKnown i → m.IsFrugal mode → m.may_run_out mode i → ⊥

  -- where a parser never fails so, by itself or since what is lacking is too large, it has no such outcome
  abbrev pub HasNoFailure : Type 0
  HasNoFailure = (cause : Cause) (s : Bool) (i : I) → w.IsKnown i → m.NeverFails cause → m.answers s i (Stop (Fails cause)) → ⊥

module _ {I A V O E : Type 0} (w : Model I A) (view : View O) (Pins : Type 0) (IsOutput : V → O → Type 0) (m : Meaning I V E) where
  -- What is answered on y, which extends x, by what was answered on x: an acceptance of one length, with an output equal as viewed
  -- where the parser pins; a refusal; a failure, unless it is one that what is lacking is too large.
  abbrev pub StaysLonger : I → I → IResult I O E → IResult I O E → Type 0
  StaysLonger x y (Ok (j, a)) s = (n : ℕ) × (k : I) × (b : O) × IsSuffixOf w x n j × IsSuffixOf w y n k × (Pins → view.value a ≡ view.value b) × (s ≡ Ok (k, b))
  StaysLonger x y (Err (Incomplete k)) s = Unit {0}
  StaysLonger x y (Err (Error e)) s = (f : E) × (s ≡ Err (Error f))
  StaysLonger x y (Err (Failure e)) s = m.answers true x (Stop (Fails TooLarge)) ⊎ ((f : E) × (s ≡ Err (Failure f)))
  StaysLonger x y (Err OutOfMemory) s = Unit {0}

  -- of two answers of `parse`, on an input and on one that extends it, running out of memory aside
  abbrev pub AnswersStay : Type 0
  AnswersStay = (x y : I) (r s : IResult I O E) → w.IsKnown x → w.IsKnown y → Extends w x y →
      ParsesMeaning w IsOutput m true x r → ParsesMeaning w IsOutput m true y s → (s ≡ Err OutOfMemory) ⊎ StaysLonger x y r s

  -- what one `parse` of the whole answers, by what was answered on a beginning with the rest of the whole
  abbrev pub IsOfWhole : I → IResult I O E → IResult I O E → Type 0
  IsOfWhole beginning (Ok (j, a)) s = (k : I) × (b : O) × IsSame w j k × (Pins → view.value a ≡ view.value b) × (s ≡ Ok (k, b))
  IsOfWhole beginning (Err (Incomplete k)) s = (n : Needed) × (size_of n ≡ size_of k) × (s ≡ Err (Incomplete n))
  IsOfWhole beginning (Err (Error e)) s = (f : E) × (s ≡ Err (Error f))
  IsOfWhole beginning (Err (Failure e)) s = m.answers true beginning (Stop (Fails TooLarge)) ⊎ ((f : E) × (s ≡ Err (Failure f)))
  IsOfWhole beginning (Err OutOfMemory) s = Unit {0}

  -- an error that the parser blames in either mode
  abbrev pub IsBlamed : I → E → Type 0
  IsBlamed x e = m.blames true x e × m.blames false x e

  -- What `parse_complete` answers on x, by what `parse` answered on it: an acceptance with a rest and, where the parser pins, an output
  -- that are equal as viewed; a refusal; a failure, unless it is one that what is lacking is too large; each error blamed in either mode.
  abbrev pub Completes : I → IResult I O E → IResult I O E → Type 0
  Completes x (Ok (j, a)) s = (k : I) × (b : O) × IsSame w j k × (Pins → view.value a ≡ view.value b) × (s ≡ Ok (k, b))
  Completes x (Err (Incomplete k)) s = Unit {0}
  Completes x (Err (Error e)) s = (f : E) × (s ≡ Err (Error f)) × IsBlamed x e × IsBlamed x f
  Completes x (Err (Failure e)) s = m.answers true x (Stop (Fails TooLarge)) ⊎ ((f : E) × (s ≡ Err (Failure f)) × IsBlamed x e × IsBlamed x f)
  Completes x (Err OutOfMemory) s = Unit {0}

  -- of the answers of `parse` and of `parse_complete` on one input, that memory runs out aside
  abbrev pub AnswersComplete : Type 0
  AnswersComplete = (x : I) (r s : IResult I O E) → w.IsKnown x → ParsesMeaning w IsOutput m true x r →
      ParsesMeaning w IsOutput m false x s → (s ≡ Err OutOfMemory) ⊎ Completes x r s
