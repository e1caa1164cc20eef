-- How choices show their answers.
use Rattle.std.specs.Prelude.{◌≡◌, Bool, true, false, Result, Ok, Err, Option, Some, None, refl}
use Rattle.std.proofs.Common.{inl, inr, ◌∙◌, ap, subst}
use Rattle.nom_internal.specs.Prelude.{Needed, Incomplete, Error, Failure, OutOfMemory, PResult, Refuses, Built, Modes, modes, with_outputs, with_errors, Model}
use Rattle.nom_internal.specs.Prelude.{Outcome, Accept, Refuse, Stop, Fails, Needs, ShowsOutcome, ShowsAnswer, IsFailure, IsFault, OnOutcome, RanOut}
use Rattle.nom_internal.specs.Prelude.{Shown, Meaning}
use Rattle.nom_internal.specs.Prelude.{ShowsMeaning, Joined, NextBlames, NextRunsOut, or_meaning, either_meaning, otherwise_meaning, EitherOutput, OnError}
use Rattle.nom_internal.specs.Prelude.{JoinsErrors, ClosesError, JoinsResult, ClosesResult, ShowsNext, NextFails, NextRefuses, FirstFails, FirstRefuses}
use Rattle.nom_internal.specs.Prelude.{labelled, labelled_meaning, closed_meaning, RunsOutInPart, RunsOutBeside}
use Rattle.nom_error.specs.declared.answer.Err as Answer
use Rattle.nom_internal.specs.Choice.OtherwiseBlames.{FirstFaults, NextFaults}
use Rattle.nom_internal.proofs.Shown.{built_error}
use Rattle.nom_internal.proofs.Cased.{here, labelled_shown}

module _ {E : Type 0} (Grows : Type 0) where
  -- a refusal whose error comes of one that is built
  refuses_more : (P Q : E → Type 0) (errors : Bool) (f : Answer.Err E (Option E) Needed) → ((e : E) → P e → Q e) → Refuses P Grows errors f →
      Refuses Q Grows errors f
  refuses_more P Q errors f g (inl h) = inl h
  refuses_more P Q errors f g (inr h) = inr (h.0, built_error errors P Q h.0 g h.1, h.2)

  -- where errors aren't built, a refusal holds none
  none_refused : (P : E → Type 0) (f : Answer.Err E (Option E) Needed) → f ≡ Error None → Refuses P Grows false f
  none_refused P f h = inr (None, refl, h)

  -- the error of a refusal, closed
  pub closes_built : (C : E → E → Type 0) (P : E → Type 0) (errors : Bool) (x : Option E) (f : Answer.Err E (Option E) Needed) → Built errors P x →
      ClosesError C Grows x f → Refuses (λ e. (a : E) × P a × C a e) Grows errors f
  closes_built C P true x f b h = refuses_more (C b.0) (λ e. (a : E) × P a × C a e) true f (λ e g. (b.0, b.2, g)) (subst (λ y. ClosesError C Grows y f) b.1 h)
  closes_built C P false x f b h = none_refused (λ e. (a : E) × P a × C a e) f (subst (λ y. ClosesError C Grows y f) b h)

  -- the errors of two refusals, joined
  pub joins_built : (J : E → E → E → Type 0) (P Q : E → Type 0) (errors : Bool) (x y : Option E) (f : Answer.Err E (Option E) Needed) →
      Built errors P x → Built errors Q y → JoinsErrors J Grows x y f → Refuses (Joined J P Q) Grows errors f
  joins_built J P Q true x y f b c h =
      refuses_more (J b.0 c.0) (Joined J P Q) true f (λ e g. record { first = b.0; second = c.0; first_is = b.2; second_is = c.2; joined = g })
      (subst (λ z. JoinsErrors J Grows (Some b.0) z f) c.1 (subst (λ z. JoinsErrors J Grows z y f) b.1 h))
  joins_built J P Q false x y f b c h = none_refused (Joined J P Q) f (subst (λ z. JoinsErrors J Grows z y f) b h)

  -- two errors that were joined, and one that was closed
  pub joins_made : (J : E → E → E → Type 0) (x y : Option E) (a b e : E) → x ≡ Some a → y ≡ Some b → J a b e → JoinsErrors J Grows x y (Error (Some e))
  joins_made J x y a b e h k g = rw (h, k) (inr (Some e, (e, refl, g), refl))

  pub closes_made : (C : E → E → Type 0) (x : Option E) (a e : E) → x ≡ Some a → C a e → ClosesError C Grows x (Error (Some e))
  closes_made C x a e h g = rw h (inr (Some e, (e, refl, g), refl))

-- the fact of an error that is built
pub built_fact : {T : Type 0} (b : Bool) (P : T → Type 0) (x : Option T) (v : T) → Built b P x → x ≡ Some v → P v
built_fact true P x v h e = let same : h.0 ≡ v = cc (h.1, e) in subst P same h.2
built_fact false P x v h e = cc

-- a further fact of an error that is built, and of which error it is
pub built_map : {T : Type 0} (b : Bool) (P Q : T → Type 0) (x : Option T) → ((v : T) → x ≡ Some v → P v → Q v) → Built b P x → Built b Q x
built_map true P Q x f h = (h.0, h.1, f h.0 h.1 h.2)
built_map false P Q x f h = h

-- where the result before is a refusal, what is said of its error
pub on_error : {T E : Type 0} (Q : Option E → Result T (Answer.Err E (Option E) Needed) → Type 0) (before : Result T (Answer.Err E (Option E) Needed))
    (x : Option E) (r : Result T (Answer.Err E (Option E) Needed)) → before ≡ Err (Error x) → Q x r → OnError Q before r
on_error Q before x r h k = rw h k

module _ {T E : Type 0} (Q R : Option E → Result T (Answer.Err E (Option E) Needed) → Type 0) where
  -- what is said of a refusal's error, where it implies more
  pub on_error_map : (before r : Result T (Answer.Err E (Option E) Needed)) → ((x : Option E) → Q x r → R x r) → OnError Q before r → OnError R before r
  on_error_map (Ok x) r f h = h
  on_error_map (Err (Incomplete k)) r f h = h
  on_error_map (Err (Error x)) r f h = f x h
  on_error_map (Err (Failure e)) r f h = h
  on_error_map (Err OutOfMemory) r f h = h

module _ {I A V O E : Type 0} (w : Model I A) (IsOutput : V → O → Type 0) (mode : Modes) (i : I) where
  -- what is shown, of an error of which more is known
  pub shows_map : (P Q : E → Type 0) (o : Outcome V) (r : PResult I O E) → ((e : E) → P e → Q e) →
      ShowsOutcome w IsOutput mode i P o r → ShowsOutcome w IsOutput mode i Q o r
  shows_map P Q (Accept n v) r f h = h
  shows_map P Q Refuse r f h = (h.0, built_map mode.errors P Q h.0 (λ e _ p. f e p) h.1, h.2)
  shows_map P Q (Stop (Fails cause)) r f h = (h.0, f h.0 h.1, h.2)
  shows_map P Q (Stop (Needs k)) r f h = h

  -- a refusal, with an error that is made
  pub refusal_shown : (Answers : Outcome V → Type 0) (Gives IsError : E → Type 0) (Grows RunsOut : Type 0) (f : Answer.Err E (Option E) Needed)
      (r : PResult I O E) → Answers Refuse → ((e : E) → Gives e → IsError e) →
      (mode.errors ≡ true → Grows → RunsOut) → Refuses Gives Grows mode.errors f → r ≡ Err f → ShowsAnswer w IsOutput mode i Answers IsError RunsOut r
  refusal_shown Answers Gives IsError Grows RunsOut f r a g k (inl h) e = RanOut (e ∙ ap Err h.0) (k h.1 h.2)
  refusal_shown Answers Gives IsError Grows RunsOut f r a g k (inr h) e = Shown Refuse a (h.0, built_error mode.errors Gives IsError h.0 g h.1, e ∙ ap Err h.2)

module _ {I A V O E : Type 0} (w : Model I A) (IsOutput : V → O → Type 0) (mode : Modes) (i : I) (m : Meaning I V E) where
  -- a branch after a refusal
  pub next_shown : (Joins : E → E → E → Type 0) (Grows : Type 0) (x : Option E) (before r : PResult I O E) →
      Built mode.errors (λ _. Unit {0}) x → ShowsMeaning w IsOutput m mode i before → JoinsResult Joins Grows x before r →
      ShowsAnswer w IsOutput mode i (m.answers mode.streaming i) (NextBlames Joins m mode.streaming i (λ a. x ≡ Some a)) (NextRunsOut Grows m mode i) r
  next_shown Joins Grows x before r b (RanOut e h) g = RanOut (rw e at g) (inl h)
  next_shown Joins Grows x before r b (Shown (Accept n v) a h) g = Shown (Accept n v) a (h.0, h.1, h.2, h.3, rw h.4 at g)
  next_shown Joins Grows x before r b (Shown Refuse a h) g =
      let made = rw h.2 at g in
      let first = built_map mode.errors (λ _. Unit {0}) (λ e. x ≡ Some e) x (λ e is _. is) b in
      refusal_shown w IsOutput mode i (m.answers mode.streaming i) (Joined Joins (λ e. x ≡ Some e) (m.blames mode.streaming i))
      (NextBlames Joins m mode.streaming i (λ e. x ≡ Some e)) Grows (NextRunsOut Grows m mode i) made.0 r a (λ e j. NextRefuses a j)
      (λ e z. inr (a, e, z)) (joins_built Grows Joins (λ e. x ≡ Some e) (m.blames mode.streaming i) mode.errors x h.0 made.0 first h.1 made.1) made.2
  next_shown Joins Grows x before r b (Shown (Stop (Fails cause)) a h) g =
      Shown (Stop (Fails cause)) a (h.0, NextFails (record { outcome = Stop (Fails cause); answered = a; kind_is = tt; fact = h.1 }), rw h.2 at g)
  next_shown Joins Grows x before r b (Shown (Stop (Needs k)) a h) g = Shown (Stop (Needs k)) a (h.0, h.1, rw h.2 at g)

  -- a parser, closed
  pub closed_shown : (Closes : I → E → E → Type 0) (Grows : Type 0) (before r : PResult I O E) →
      ShowsMeaning w IsOutput m mode i before → ClosesResult (Closes i) Grows before r → ShowsMeaning w IsOutput (closed_meaning Closes Grows m) mode i r
  closed_shown Closes Grows before r (RanOut e h) g = RanOut (rw e at g) (RunsOutInPart i refl h)
  closed_shown Closes Grows before r (Shown (Accept n v) a h) g = Shown (Accept n v) (here (Accept n v) a refl) (h.0, h.1, h.2, h.3, rw h.4 at g)
  closed_shown Closes Grows before r (Shown Refuse a h) g =
      let made = rw h.2 at g in
      let closed = closed_meaning Closes Grows m in
      refusal_shown w IsOutput mode i (closed.answers mode.streaming i) (λ e. (x : E) × m.blames mode.streaming i x × Closes i x e)
      (closed.blames mode.streaming i) Grows (closed.may_run_out mode i) made.0 r (here Refuse a refl) (λ e c. here Refuse a c)
      (λ e z. RunsOutBeside (here Refuse a (e, z))) (closes_built Grows (Closes i) (m.blames mode.streaming i) mode.errors h.0 made.0 h.1 made.1) made.2
  closed_shown Closes Grows before r (Shown (Stop (Fails cause)) a h) g =
      Shown (Stop (Fails cause)) (here (Stop (Fails cause)) a refl) (h.0, here (Stop (Fails cause)) a h.1, rw h.2 at g)
  closed_shown Closes Grows before r (Shown (Stop (Needs k)) a h) g = Shown (Stop (Needs k)) (here (Stop (Needs k)) a refl) (h.0, h.1, rw h.2 at g)

module _ {I A V O E : Type 0} (w : Model I A) (IsOutput : V → O → Type 0) (mode : Modes) (i : I) where
  -- what is shown, where the answers, the errors and where memory runs out are more
  pub shown_map : (F G : Outcome V → Type 0) (P Q : E → Type 0) (R S : Type 0) (r : PResult I O E) →
      ((o : Outcome V) → F o → G o) → ((e : E) → P e → Q e) → (R → S) → ShowsAnswer w IsOutput mode i F P R r → ShowsAnswer w IsOutput mode i G Q S r
  shown_map F G P Q R S r f g k (RanOut e h) = RanOut e (k h)
  shown_map F G P Q R S r f g k (Shown o a h) = Shown o (f o a) (shows_map w IsOutput mode i P Q o r g h)

module _ {I A V T O E : Type 0} (w : Model I A) (label : V → T) (IsOutput : V → O → Type 0) (IsLabelled : T → O → Type 0)
    (same : (t : V) (o : O) → IsOutput t o → IsLabelled (label t) o) (Joins : E → E → E → Type 0) (Grows : Type 0) (m : Meaning I V E) (mode : Modes)
    (i : I) where
  failure_labelled : (e : E) → OnOutcome IsFailure (m.answers mode.streaming) (m.blames mode.streaming i e) i →
      OnOutcome IsFailure ((labelled_meaning label m).answers mode.streaming) ((labelled_meaning label m).blames mode.streaming i e) i
  failure_labelled e f = record {
    outcome = labelled label f.outcome;
    answered = here f.outcome f.answered refl;
    kind_is = still f.outcome f.kind_is;
    fact = here f.outcome f.answered f.fact;
  }
    where
      still : (o : Outcome V) → IsFailure o → IsFailure (labelled label o)
      still (Accept n v) h = h
      still Refuse h = h
      still (Stop why) h = h

  next_blames_labelled : (First : E → Type 0) (e : E) → NextBlames Joins m mode.streaming i First e →
      NextBlames Joins (labelled_meaning label m) mode.streaming i First e
  next_blames_labelled First e (NextFails f) = NextFails (failure_labelled e f)
  next_blames_labelled First e (NextRefuses a j) =
      NextRefuses (here Refuse a refl)
      (record { first = j.first; second = j.second; first_is = j.first_is; second_is = here Refuse a j.second_is; joined = j.joined })

  next_runs_out_labelled : NextRunsOut Grows m mode i → NextRunsOut Grows (labelled_meaning label m) mode i
  next_runs_out_labelled (inl h) = inl (RunsOutInPart i refl h)
  next_runs_out_labelled (inr h) = inr (here Refuse h.0 refl, h.1, h.2)

  next_of : (x : Option E) (r : PResult I O E) (o : Outcome V) → m.answers mode.streaming i o →
      ShowsOutcome w IsOutput mode i (NextBlames Joins m mode.streaming i (λ a. x ≡ Some a)) o r →
      ShowsOutcome w IsLabelled mode i (NextBlames Joins (labelled_meaning label m) mode.streaming i (λ a. x ≡ Some a)) (labelled label o) r
  next_of x r (Accept n v) a h = (h.0, h.1, h.2, built_map mode.outputs (IsOutput v) (IsLabelled (label v)) h.1 (λ o _ p. same v o p) h.3, h.4)
  next_of x r Refuse a h = (h.0, built_map mode.errors _ _ h.0 (λ e _ n. next_blames_labelled (λ a. x ≡ Some a) e n) h.1, h.2)
  next_of x r (Stop (Fails cause)) a h = (h.0, next_blames_labelled (λ a. x ≡ Some a) h.0 h.1, h.2)
  next_of x r (Stop (Needs k)) a h = h

  -- a branch after a refusal, with its trees labelled
  pub next_labelled : (x : Option E) (r : PResult I O E) → ShowsNext w IsOutput Joins Grows m mode i x r →
      ShowsNext w IsLabelled Joins Grows (labelled_meaning label m) mode i x r
  next_labelled x r h b = labelled_next (h b)
    where
      labelled_next : ShowsAnswer w IsOutput mode i (m.answers mode.streaming i) (NextBlames Joins m mode.streaming i (λ a. x ≡ Some a))
          (NextRunsOut Grows m mode i) r → ShowsAnswer w IsLabelled mode i ((labelled_meaning label m).answers mode.streaming i)
          (NextBlames Joins (labelled_meaning label m) mode.streaming i (λ a. x ≡ Some a)) (NextRunsOut Grows (labelled_meaning label m) mode i) r
      labelled_next (RanOut e k) = RanOut e (next_runs_out_labelled k)
      labelled_next (Shown o a k) = Shown (labelled label o) (here o a refl) (next_of x r o a k)

-- one of two parsers, of one type of trees
module _ {I A V O E : Type 0} (w : Model I A) (IsOutput : V → O → Type 0) (Joins : E → E → E → Type 0) (Grows : Type 0) (a b : Meaning I V E)
    (mode : Modes) (i : I) where
  next_blames_first : (x : Option E) (e : E) → Built mode.errors (a.blames mode.streaming i) x →
      NextBlames Joins b mode.streaming i (λ f. x ≡ Some f) e → NextBlames Joins b mode.streaming i (a.blames mode.streaming i) e
  next_blames_first x e h (NextFails f) = NextFails f
  next_blames_first x e h (NextRefuses r j) =
      NextRefuses r (record {
        first = j.first;
        second = j.second;
        first_is = built_fact mode.errors (a.blames mode.streaming i) x j.first h j.first_is;
        second_is = j.second_is;
        joined = j.joined;
      })

  -- a first part's result, and what becomes of its refusal
  pub or_shown : (before r : PResult I O E) → ShowsMeaning w IsOutput a mode i before →
      OnError (ShowsNext w IsOutput Joins Grows b mode i) before r → ShowsMeaning w IsOutput (or_meaning Joins Grows a b) mode i r
  or_shown before r (RanOut e h) g = RanOut (rw e at g) (inl h)
  or_shown before r (Shown (Accept n v) c h) g =
      Shown (Accept n v) (record { first = Accept n v; answered = c; goes_on = refl }) (h.0, h.1, h.2, h.3, rw h.4 at g)
  or_shown before r (Shown Refuse c h) g =
      let next = rw h.2 at g in
      let both = or_meaning Joins Grows a b in
      shown_map w IsOutput mode i (b.answers mode.streaming i) (both.answers mode.streaming i) (NextBlames Joins b mode.streaming i (λ f. h.0 ≡ Some f))
      (both.blames mode.streaming i) (NextRunsOut Grows b mode i)
      (both.may_run_out mode i) r (λ o d. record { first = Refuse; answered = c; goes_on = d }) (λ e n. FirstRefuses c (next_blames_first h.0 e h.1 n))
      (λ k. inr (c, k))
      (next (built_map mode.errors (a.blames mode.streaming i) (λ _. Unit {0}) h.0 (λ _ _ _. tt) h.1))
  or_shown before r (Shown (Stop (Fails cause)) c h) g =
      Shown (Stop (Fails cause)) (record { first = Stop (Fails cause); answered = c; goes_on = refl })
      (h.0, FirstFails (record { outcome = Stop (Fails cause); answered = c; kind_is = tt; fact = h.1 }), rw h.2 at g)
  or_shown before r (Shown (Stop (Needs k)) c h) g =
      Shown (Stop (Needs k)) (record { first = Stop (Needs k); answered = c; goes_on = refl }) (h.0, h.1, rw h.2 at g)

-- one of two parsers, with a tree that says which
pub either_shown : {I A P Q O E : Type 0} (w : Model I A) (First : P → O → Type 0) (Second : Q → O → Type 0) (Joins : E → E → E → Type 0)
    (Grows : Type 0) (a : Meaning I P E) (b : Meaning I Q E) (mode : Modes) (i : I) (before r : PResult I O E) →
    ShowsMeaning w First a mode i before → OnError (ShowsNext w Second Joins Grows b mode i) before r →
    ShowsMeaning w (EitherOutput First Second) (either_meaning Joins Grows a b) mode i r
either_shown w First Second Joins Grows a b mode i before r h g =
    let out = EitherOutput First Second in
    or_shown w out Joins Grows (labelled_meaning inl a) (labelled_meaning inr b) mode i before r
    (labelled_shown w inl First out (λ t o k. k) a mode i before h)
    (on_error_map (ShowsNext w Second Joins Grows b mode i)
    (ShowsNext w out Joins Grows (labelled_meaning inr b) mode i) before r (λ x k. next_labelled w inr Second out (λ t o k. k) Joins Grows b mode i x r k) g)

-- a parser that stands in where the first refuses, whose error is dropped
module _ {I A V O E : Type 0} (w : Model I A) (IsOutput : V → O → Type 0) (a b : Meaning I V E) (built : Bool) (mode : Modes) (i : I) where
  abbrev Otherwise : PResult I O E → Type 0
  Otherwise = ShowsAnswer w IsOutput (with_outputs built mode) i ((otherwise_meaning a b).answers mode.streaming i)
      ((otherwise_meaning a b).blames mode.streaming i) ((otherwise_meaning a b).may_run_out mode i)

  first_of : (o : Outcome V) (r : PResult I O E) → a.answers mode.streaming i o →
      ((x : Option E) → r ≡ Err (Error x) → ⊥) → ShowsOutcome w IsOutput (modes built false mode.streaming) i (a.blames mode.streaming i) o r → Otherwise r
  first_of (Accept n v) r c f h = Shown (Accept n v) (record { first = Accept n v; answered = c; goes_on = refl }) h
  first_of Refuse r c f h = absurd (f h.0 h.2)
  first_of (Stop (Fails cause)) r c f h = Shown (Stop (Fails cause)) (record { first = Stop (Fails cause); answered = c; goes_on = refl })
      (h.0, FirstFaults (record { outcome = Stop (Fails cause); answered = c; kind_is = tt; fact = h.1 }), h.2)
  first_of (Stop (Needs k)) r c f h = Shown (Stop (Needs k)) (record { first = Stop (Needs k); answered = c; goes_on = refl }) h

  -- whatever the first answers but a refusal
  pub otherwise_first : (r : PResult I O E) → ((x : Option E) → r ≡ Err (Error x) → ⊥) →
      ShowsAnswer w IsOutput (modes built false mode.streaming) i (a.answers mode.streaming i) (a.blames mode.streaming i)
      (a.may_run_out (with_errors false mode) i) r → Otherwise r
  otherwise_first r f (RanOut e h) = RanOut e (inl h)
  otherwise_first r f (Shown o c h) = first_of o r c f h

  module _ (refused : a.answers mode.streaming i Refuse) where
    next_fact : (o : Outcome V) → b.answers mode.streaming i o → IsFault o → (e : E) → b.blames mode.streaming i e →
        (otherwise_meaning a b).blames mode.streaming i e
    next_fact o c k e h = NextFaults refused (record { outcome = o; answered = c; kind_is = k; fact = h })

    otherwise_of : (o : Outcome V) (r : PResult I O E) → b.answers mode.streaming i o →
        ShowsOutcome w IsOutput (with_outputs built mode) i (b.blames mode.streaming i) o r →
        ShowsOutcome w IsOutput (with_outputs built mode) i ((otherwise_meaning a b).blames mode.streaming i) o r
    otherwise_of (Accept n v) r c h = h
    otherwise_of Refuse r c h = (h.0, built_error mode.errors _ _ h.0 (next_fact Refuse c tt) h.1, h.2)
    otherwise_of (Stop (Fails cause)) r c h = (h.0, next_fact (Stop (Fails cause)) c tt h.0 h.1, h.2)
    otherwise_of (Stop (Needs k)) r c h = h

    -- where the first refuses, what the second answers
    pub otherwise_next : (r : PResult I O E) →
        ShowsAnswer w IsOutput (with_outputs built mode) i (b.answers mode.streaming i) (b.blames mode.streaming i) (b.may_run_out mode i) r → Otherwise r
    otherwise_next r (RanOut e h) = RanOut e (inr (refused, h))
    otherwise_next r (Shown o c h) = Shown o (record { first = Refuse; answered = refused; goes_on = c }) (otherwise_of o r c h)
