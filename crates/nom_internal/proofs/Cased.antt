-- Lemmas on cases over a part's outcome, from what the part showed.
use Rattle.std.proofs.Common.{◌≡◌, ℕ, Bool, Ok, Err, Option, refl, subst}
use Rattle.nom_internal.specs.Prelude.{PResult, Needed, Incomplete, Error, Built, Modes, with_outputs, with_streaming, Model, Outcome, Accept, Refuse, Stop}
use Rattle.nom_internal.specs.Prelude.{Fails, Needs, ShowsOutcome, ShowsAnswer, RanOut, Shown, Meaning, ShowsMeaning, mode_of, Case, OnPart}
use Rattle.nom_internal.specs.Prelude.{case_meaning, Passes, plain_case, labelled, labelled_meaning, fixed_meaning, RunsOutInPart, Cause}
use Rattle.nom_error.specs.declared.answer.Err as Answer
use Rattle.nom_internal.proofs.Shown.{accepts, built_error}

-- a part at the same input
pub here : {I P : Type 0} {Part : I → Outcome P → Type 0} {Fact : I → Outcome P → Type 0} {i : I} (a : Outcome P) → Part i a → Fact i a →
    OnPart (λ i j. i ≡ j) Part Fact i
here {i = i} a p f = record { at = i; at_is = refl; outcome = a; answered = p; fact = f }

-- The part runs at the same input, and what it answers by k, which is no acceptance, passes with its error, where it has one.
pub record Passing {I P T E : Type 0} (c : Case I I P T E E) (m : Meaning I P E) (mode : Modes) (i : I) (k : Answer.Err E (Option E) Needed) : Type 0 where
  pub at_is : c.At i i
  pub refuses : (b : Option E) → k ≡ Error b → ((c.part mode).errors ≡ mode.errors) × c.Becomes i Refuse Refuse ×
      ((e : E) → m.blames (mode_of c.mode mode.streaming) i e → c.Blames i Refuse (m.blames (mode_of c.mode mode.streaming) i) e)
  pub undecided : (n : Needed) → k ≡ Incomplete n → (d : Option ℕ) → c.Becomes i (Stop (Needs d)) (Stop (Needs d))
  pub fails : (cause : Cause) → c.Becomes i (Stop (Fails cause)) (Stop (Fails cause))
  pub blames_failure : (cause : Cause) (e : E) → m.blames (mode_of c.mode mode.streaming) i e →
      c.Blames i (Stop (Fails cause)) (m.blames (mode_of c.mode mode.streaming) i) e

module _ {I A P T O X E : Type 0} (w : Model I A) (IsOutput : P → O → Type 0) (IsResult : T → X → Type 0) (c : Case I I P T E E) (m : Meaning I P E)
    (mode : Modes) (i : I) where
  abbrev InPart : PResult I O E → Type 0
  InPart = ShowsAnswer w IsOutput (c.part mode) i (m.answers (mode_of c.mode mode.streaming) i) (m.blames (mode_of c.mode mode.streaming) i)
      (m.may_run_out (c.part mode) i)

  abbrev Whole : PResult I X E → Type 0
  Whole = ShowsMeaning w IsResult (case_meaning c m) mode i

  module _ {k : Answer.Err E (Option E) Needed} (p : Passing c m mode i k) where
    there : {Fact : I → Outcome P → Type 0} (o : Outcome P) → m.answers (mode_of c.mode mode.streaming) i o → Fact i o →
        OnPart c.At (m.answers (mode_of c.mode mode.streaming)) Fact i
    there o a f = record { at = i; at_is = p.at_is; outcome = o; answered = a; fact = f }

    passing_of : (o : Outcome P) → m.answers (mode_of c.mode mode.streaming) i o →
        ShowsOutcome w IsOutput (c.part mode) i (m.blames (mode_of c.mode mode.streaming) i) o (Err k) → Whole (Err k)
    passing_of (Accept n v) a h = absurd (cc (h.4))
    passing_of Refuse a h = let r = p.refuses h.0 (cc (h.2)) in
        Shown Refuse (there Refuse a r.1) (
          h.0,
          built_error mode.errors _ _ h.0 (λ e b. there Refuse a (r.2 e b))
              (subst (λ z. Built z (m.blames (mode_of c.mode mode.streaming) i) h.0) r.0 h.1),
          cc (h.2),
        )
    passing_of (Stop (Fails cause)) a h = Shown (Stop (Fails cause)) (there _ a (p.fails cause)) (h.0, there _ a (p.blames_failure cause h.0 h.1), cc (h.2))
    passing_of (Stop (Needs d)) a h = Shown (Stop (Needs d)) (there (Stop (Needs d)) a (p.undecided h.0 (cc (h.2)) d)) (h.0, h.1, cc (h.2))

    passed : InPart (Err k) → Whole (Err k)
    passed (RanOut e h) = RanOut (cc (e)) (RunsOutInPart i p.at_is h)
    passed (Shown o a h) = passing_of o a h

    pub passing_err : {f : Answer.Err E (Option E) Needed} → f ≡ k → InPart (Err f) → Whole (Err k)
    passing_err q h = passed (subst (λ y. InPart (Err y)) q h)

module _ {I A P T O X E : Type 0} (w : Model I A) (IsOutput : P → O → Type 0) (IsResult : T → X → Type 0) (builds : Bool → Bool)
    (OnAccept : I → ℕ → P → Outcome T → Type 0) (m : Meaning I P E) (mode : Modes) (i : I) where
  -- whatever isn't an acceptance passes
  pub plain_err : (f : Answer.Err E (Option E) Needed) → ShowsMeaning w IsOutput m (with_outputs (builds mode.outputs) mode) i (Err f) →
      ShowsMeaning w IsResult (case_meaning (plain_case builds (λ i. Passes (OnAccept i))) m) mode i (Err f)
  plain_err f = passing_err w IsOutput IsResult (plain_case builds (λ i. Passes (OnAccept i))) m mode i
      (record {
        at_is = refl;
        refuses = λ b e. (refl, refl, λ z h. h);
        undecided = λ n e d. refl;
        fails = λ _. refl;
        blames_failure = λ _ z h. h;
      }) refl

module _ {I A P T O E : Type 0} (w : Model I A) (label : P → T) (IsOutput : P → O → Type 0) (IsLabelled : T → O → Type 0)
    (same : (t : P) (o : O) → IsOutput t o → IsLabelled (label t) o) (m : Meaning I P E) (mode : Modes) (i : I) where
  labelled_of : (o : Outcome P) (r : PResult I O E) → m.answers mode.streaming i o →
      ShowsOutcome w IsOutput mode i (m.blames mode.streaming i) o r → ShowsOutcome w IsLabelled mode i ((labelled_meaning label m).blames mode.streaming i)
      (labelled label o) r
  labelled_of (Accept n v) r a h = (h.0, h.1, h.2, built_error mode.outputs _ _ h.1 (λ x p. same v x p) h.3, h.4)
  labelled_of Refuse r a h = (h.0, built_error mode.errors _ _ h.0 (λ e b. here Refuse a b) h.1, h.2)
  labelled_of (Stop (Fails cause)) r a h = (h.0, here (Stop (Fails cause)) a h.1, h.2)
  labelled_of (Stop (Needs k)) r a h = h

  -- a part, with its trees labelled
  pub labelled_shown : (r : PResult I O E) → ShowsMeaning w IsOutput m mode i r →
      ShowsMeaning w IsLabelled (labelled_meaning label m) mode i r
  labelled_shown r (RanOut e h) = RanOut e (RunsOutInPart i refl h)
  labelled_shown r (Shown o a h) = Shown (labelled label o) (here o a refl) (labelled_of o r a h)

module _ {I A P O E : Type 0} (w : Model I A) (IsOutput : P → O → Type 0) (streaming : Bool) (m : Meaning I P E) (mode : Modes) (i : I) where
  fixed_of : (o : Outcome P) (r : PResult I O E) → m.answers streaming i o →
      ShowsOutcome w IsOutput mode i (m.blames streaming i) o r → ShowsOutcome w IsOutput mode i ((fixed_meaning streaming m).blames mode.streaming i) o r
  fixed_of (Accept n v) r a h = h
  fixed_of Refuse r a h = (h.0, built_error mode.errors _ _ h.0 (λ e b. here Refuse a b) h.1, h.2)
  fixed_of (Stop (Fails cause)) r a h = (h.0, here (Stop (Fails cause)) a h.1, h.2)
  fixed_of (Stop (Needs k)) r a h = h

  -- a part in its one mode
  pub fixed_shown : (r : PResult I O E) → ShowsMeaning w IsOutput m (with_streaming streaming mode) i r →
      ShowsMeaning w IsOutput (fixed_meaning streaming m) mode i r
  fixed_shown r (RanOut e h) = RanOut e (RunsOutInPart i refl h)
  fixed_shown r (Shown o a h) = Shown o (here o a refl) (fixed_of o r a h)

-- a part with its trees labelled, whose value is told in another form
module _ {I A P T O X E : Type 0} (w : Model I A) (label : P → T) (IsOutput : P → O → Type 0) (IsLabelled : T → X → Type 0) (m : Meaning I P E)
    (built : Bool) (mode : Modes) (i : I) where
  abbrev Labels : PResult I X E → Type 0
  Labels = ShowsAnswer w IsLabelled (with_outputs built mode) i ((labelled_meaning label m).answers mode.streaming i)
      ((labelled_meaning label m).blames mode.streaming i) ((labelled_meaning label m).may_run_out mode i)

  labels_passed : (f : Answer.Err E (Option E) Needed) (o : Outcome P) → m.answers mode.streaming i o →
      ShowsOutcome w IsOutput mode i (m.blames mode.streaming i) o (Err f) → Labels (Err f)
  labels_passed f (Accept n v) a h = absurd (cc (h.4))
  labels_passed f Refuse a h = Shown Refuse (here Refuse a refl) (h.0, built_error mode.errors _ _ h.0 (λ e b. here Refuse a b) h.1, cc (h.2))
  labels_passed f (Stop (Fails cause)) a h = Shown (Stop (Fails cause)) (here (Stop (Fails cause)) a refl) (h.0, here (Stop (Fails cause)) a h.1, cc (h.2))
  labels_passed f (Stop (Needs k)) a h = Shown (Stop (Needs k)) (here (Stop (Needs k)) a refl) (h.0, h.1, cc (h.2))

  pub labels_err : (f : Answer.Err E (Option E) Needed) → ShowsMeaning w IsOutput m mode i (Err f) → Labels (Err f)
  labels_err f (RanOut e h) = RanOut (cc (e)) (RunsOutInPart i refl h)
  labels_err f (Shown o a h) = labels_passed f o a h

  pub labels_ok : (j : I) (x : Option O) (y : Option X) → ShowsMeaning w IsOutput m mode i (Ok (j, x)) →
      ((u : P) → Built mode.outputs (IsOutput u) x → Built built (IsLabelled (label u)) y) → Labels (Ok (j, y))
  labels_ok j x y h f =
      let a = accepts h in
      Shown (Accept a.length (label a.tree)) (here (Accept a.length a.tree) a.answered refl) (j, y, a.rest_is, f a.tree a.built_is, refl)
