-- Lemmas on the answer of a part.
use Rattle.std.proofs.Common.{◌≡◌, ℕ, Err, Option, subst, sym}
use Rattle.nom_internal.specs.Prelude.{Needed, Error, PResult, Built, Modes, Model, Outcome, Accept, Refuse}
use Rattle.nom_internal.specs.Prelude.{Stop, Grammar, Shows}
use Rattle.nom_internal.specs.Prelude.{Fails, Needs, ShowsOutcome, ShowsAnswer, RanOut, Shown}
use Rattle.nom_error.specs.declared.answer.Err as Answer
use Rattle.nom_internal.proofs.Shown.{built_error}

module _ {I A V O E : Type 0} {w : Model I A} {IsOutput : V → O → Type 0} {mode : Modes} {i : I} {Answers : Outcome V → Type 0} {IsError : E → Type 0}
    {RunsOut : Type 0} {f : Answer.Err E (Option E) Needed} where
  pub part_refused : {b : Option E} → f ≡ Error b → ShowsAnswer w IsOutput mode i Answers IsError RunsOut (Err f) → Answers Refuse
  part_refused is (RanOut e h) = absurd (cc (e, is))
  part_refused is (Shown (Accept n v) a s) = absurd (cc (s.4))
  part_refused is (Shown Refuse a s) = a
  part_refused is (Shown (Stop (Fails cause)) a s) = absurd (cc (is, s.2))
  part_refused is (Shown (Stop (Needs k)) a s) = absurd (cc (is, s.2))

  -- a refusal, with its error where errors are built
  pub part_refusal : {b : Option E} → f ≡ Error b → ShowsAnswer w IsOutput mode i Answers IsError RunsOut (Err f) → Answers Refuse × Built mode.errors IsError b
  part_refusal is (RanOut e h) = absurd (cc (e, is))
  part_refusal is (Shown (Accept n v) a s) = absurd (cc (s.4))
  part_refusal {b = b} is (Shown Refuse a s) = let e : b ≡ s.0 = cc (is, s.2) in (a, subst (λ z. Built mode.errors IsError z) (sym e) s.1)
  part_refusal is (Shown (Stop (Fails cause)) a s) = absurd (cc (is, s.2))
  part_refusal is (Shown (Stop (Needs k)) a s) = absurd (cc (is, s.2))

-- the same at an equal state
pub shown_at : {S I A V O E : Type 0} {w : Model I A} (grammar : S → Grammar I V O E) {mode : Modes} {i : I} {r : PResult I O E} {a b : S} →
    a ≡ b → Shows w (grammar a) mode i r → Shows w (grammar b) mode i r
shown_at {w = w} grammar {mode = mode} {i = i} {r = r} e h = subst (λ z. Shows w (grammar z) mode i r) e h

-- the same, with outputs viewed as something else
module _ {I A V O E : Type 0} (w : Model I A) (IsOutput IsResult : V → O → Type 0) (mode : Modes) (i : I) (IsError : E → Type 0) where
  shows_as : (o : Outcome V) (r : PResult I O E) → ((v : V) (x : O) → IsOutput v x → IsResult v x) →
      ShowsOutcome w IsOutput mode i IsError o r → ShowsOutcome w IsResult mode i IsError o r
  shows_as (Accept n v) r f s = (s.0, s.1, s.2, built_error mode.outputs _ _ s.1 (f v) s.3, s.4)
  shows_as Refuse r f s = s
  shows_as (Stop why) r f s = s

pub shown_as : {I A V O E : Type 0} {w : Model I A} {IsOutput IsResult : V → O → Type 0} {mode : Modes} {i : I} {Answers : Outcome V → Type 0}
    {IsError : E → Type 0} {RunsOut : Type 0} {r : PResult I O E} →
    ((v : V) (x : O) → IsOutput v x → IsResult v x) → ShowsAnswer w IsOutput mode i Answers IsError RunsOut r →
    ShowsAnswer w IsResult mode i Answers IsError RunsOut r
shown_as f (RanOut e h) = RanOut e h
shown_as {w = w} {IsOutput} {IsResult} {mode} {i} {Answers} {IsError} {RunsOut} {r} f (Shown o a s) =
    Shown o a (shows_as w IsOutput IsResult mode i IsError o r f s)

-- the same, of what is accepted
module _ {I A V O E : Type 0} (w : Model I A) (IsOutput IsResult : V → O → Type 0) (mode : Modes) (i : I) (Answers : Outcome V → Type 0)
    (IsError : E → Type 0) where
  shows_by : (o : Outcome V) (r : PResult I O E) →
      ((n : ℕ) (v : V) (x : O) → Answers (Accept n v) → IsOutput v x → IsResult v x) → Answers o → ShowsOutcome w IsOutput mode i IsError o r →
      ShowsOutcome w IsResult mode i IsError o r
  shows_by (Accept n v) r f a s = (s.0, s.1, s.2, built_error mode.outputs _ _ s.1 (λ x. f n v x a) s.3, s.4)
  shows_by Refuse r f a s = s
  shows_by (Stop why) r f a s = s

pub shown_by : {I A V O E : Type 0} {w : Model I A} {IsOutput IsResult : V → O → Type 0} {mode : Modes} {i : I} {Answers : Outcome V → Type 0}
    {IsError : E → Type 0} {RunsOut : Type 0} {r : PResult I O E} →
    ((n : ℕ) (v : V) (x : O) → Answers (Accept n v) → IsOutput v x → IsResult v x) → ShowsAnswer w IsOutput mode i Answers IsError RunsOut r →
    ShowsAnswer w IsResult mode i Answers IsError RunsOut r
shown_by f (RanOut e h) = RanOut e h
shown_by {w = w} {IsOutput} {IsResult} {mode} {i} {Answers} {IsError} {RunsOut} {r} f (Shown o a s) =
    Shown o a (shows_by w IsOutput IsResult mode i Answers IsError o r f a s)
