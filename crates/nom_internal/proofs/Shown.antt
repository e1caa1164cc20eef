-- Lemmas on the results of `process`, from what the parts returned.
use Rattle.std.proofs.Common.{◌≡◌, ℕ, Bool, true, false, Result, Ok, Err, Option, Some, None, refl, sym, ◌∙◌, ap, subst, inl, inr}
use Rattle.std.specs.Result.{IsErrAnd, IsErr}
use Rattle.std.proofs.lemmas.Result.{err_from_is_err_and}
use Rattle.nom_internal.specs.Prelude.{Needed, Incomplete, Error, Failure, OutOfMemory, Built, Modes, modes, with_outputs, PResult, IResult, Refuses, size_of}
use Rattle.nom_internal.specs.Prelude.{HoldsSame, rest_of, Model, InputLaws, IsSuffixOf, rest_rest, Outcome, Accept, Refuse, Stop, Fails, Needs}
use Rattle.nom_internal.specs.Prelude.{IsFault, ShowsOutcome, ShowsAnswer, ParsesOutcome, ParsesAnswer, RanOut, Shown, ParseRanOut, Parsed, after, Then}
use Rattle.nom_internal.specs.Prelude.{ThenBlames}
use Rattle.nom_internal.specs.Prelude.{ThenRunsOut, RunsOutFirst, RunsOutNext}
use Rattle.nom_error.specs.declared.answer.Err as Answer
use Rattle.nom_internal.specs.Sequence.ThenBlames.{BlamesFirst, BlamesNext}

-- what a `?` returns
pub err_from_residual : {T E : Type 0} {r : Result T E} {e : E} → IsErr r × IsErrAnd r (λ y. y ≡ e) → r ≡ Err e
err_from_residual {r = r} h =
    let p = err_from_is_err_and r h.1 in
    p.1 ∙ ap Err p.2

-- the rest of what `parse` returns is that of what `process` does
pub same_rest : {I O E : Type 0} (p : PResult I O E) (r : IResult I O E) →
    HoldsSame p r → rest_of p ≡ rest_of r
same_rest (Ok (j, Some v)) r h = sym (ap rest_of h)
same_rest (Ok (j, None)) r h = absurd h
same_rest (Err (Incomplete k)) r h = sym (ap rest_of h)
same_rest (Err (Error (Some e))) r h = sym (ap rest_of h)
same_rest (Err (Error None)) r h = absurd h
same_rest (Err (Failure e)) r h = sym (ap rest_of h)
same_rest (Err OutOfMemory) r h = sym (ap rest_of h)

-- an error that is built, of which a further fact follows
pub built_error : {E : Type 0} (errors : Bool) (P Q : E → Type 0) (b : Option E) → ((e : E) → P e → Q e) → Built errors P b → Built errors Q b
built_error true P Q b f h = (h.0, h.1, f h.0 h.2)
built_error false P Q b f h = h

-- an acceptance that was shown, with what was built
pub record Accepts {I A V O : Type 0} (w : Model I A) (IsOutput : V → O → Type 0) (built : Bool) (i : I) (Answers : Outcome V → Type 0) (j : I)
    (x : Option O) : Type 0 where
  pub length : ℕ
  pub tree : V
  pub answered : Answers (Accept length tree)
  pub rest_is : IsSuffixOf w i length j
  pub built_is : Built built (IsOutput tree) x

module _ {I A V O E : Type 0} (w : Model I A) (IsOutput : V → O → Type 0) (mode : Modes) (i : I) (Answers : Outcome V → Type 0) (IsError : E → Type 0) where
  some_accepts : (j : I) (x : Option O) (o : Outcome V) → Answers o → ShowsOutcome w IsOutput mode i IsError o (Ok (j, x)) →
      Accepts w IsOutput mode.outputs i Answers j x
  some_accepts j x (Accept n v) a s =
      let same : ◌≡◌ {A = I × Option O} (j, x) (s.0, s.1) = cc (s.4) in
      record {
        length = n;
        tree = v;
        answered = a;
        rest_is = subst (λ k. IsSuffixOf w i n k) (sym (ap (λ p. p.0) same)) s.2;
        built_is = subst (λ y. Built mode.outputs (IsOutput v) y) (sym (ap (λ p. p.1) same)) s.3;
      }
  some_accepts j x Refuse a s = cc (s.2)
  some_accepts j x (Stop (Fails cause)) a s = cc (s.2)
  some_accepts j x (Stop (Needs k)) a s = cc (s.2)

pub accepts : {I A V O E : Type 0} {w : Model I A} {IsOutput : V → O → Type 0} {mode : Modes} {i : I} {Answers : Outcome V → Type 0}
    {IsError : E → Type 0} {RunsOut : Type 0} {j : I} {x : Option O} → ShowsAnswer w IsOutput mode i Answers IsError RunsOut (Ok (j, x)) →
    Accepts w IsOutput mode.outputs i Answers j x
accepts (RanOut e h) = cc
accepts {w = w} {IsOutput = IsOutput} {mode = mode} {i = i} {Answers = Answers} {IsError = IsError} {j = j} {x = x} (Shown o a s) =
    some_accepts w IsOutput mode i Answers IsError j x o a s

module _ {I A V O P E : Type 0} (w : Model I A) (IsOutput : V → O → Type 0) (IsResult : V → P → Type 0) (built : Bool) (mode : Modes) (i : I)
    (IsError : E → Type 0) where
  err_shown : (e : Answer.Err E (Option E) Needed) (o : Outcome V) → ShowsOutcome w IsOutput (with_outputs built mode) i IsError o (Err e) →
      ShowsOutcome w IsResult mode i IsError o (Err e)
  err_shown e (Accept n v) s = cc (s.4)
  err_shown e Refuse s = (s.0, s.1, cc (s.2))
  err_shown e (Stop (Fails cause)) s = (s.0, s.1, cc (s.2))
  err_shown e (Stop (Needs k)) s = (s.0, s.1, cc (s.2))

module _ {I A V O P E : Type 0} {w : Model I A} {IsOutput : V → O → Type 0} {IsResult : V → P → Type 0} {built : Bool} {mode : Modes} {i : I}
    {Answers : Outcome V → Type 0} {IsError : E → Type 0} {RunsOut : Type 0} where
  -- no acceptance, and a `?` returns what was answered: whatever an acceptance would have built
  pub output_err : {e : Answer.Err E (Option E) Needed} {r : PResult I P E} →
      ShowsAnswer w IsOutput (with_outputs built mode) i Answers IsError RunsOut (Err e) → IsErr r × IsErrAnd r (λ y. y ≡ e) →
      ShowsAnswer w IsResult mode i Answers IsError RunsOut r
  output_err (RanOut f h) q = let is = err_from_residual q in RanOut (cc (is, f)) h
  output_err {e = e} (Shown o a s) q =
      Shown o a (subst (λ x. ShowsOutcome w IsResult mode i IsError o x) (sym (err_from_residual q)) (err_shown w IsOutput IsResult built mode i IsError e o s))

  -- an acceptance, with something else built of its tree
  pub output_ok : {j : I} {x : Option O} {y : Option P} → ShowsAnswer w IsOutput (with_outputs built mode) i Answers IsError RunsOut (Ok (j, x)) →
      ((v : V) → Built built (IsOutput v) x → Built mode.outputs (IsResult v) y) → ShowsAnswer w IsResult mode i Answers IsError RunsOut (Ok (j, y))
  output_ok {j = j} {y = y} h k =
      let a = accepts h in
      Shown (Accept a.length a.tree) a.answered (j, y, a.rest_is, k a.tree a.built_is, refl)

-- what two parts in sequence show
abbrev pub ShowsThen : {I A P Q T Y E : Type 0} (w : Model I A) (tree : P → Q → T) (First : I → Outcome P → Type 0) (FirstBlames : I → E → Type 0)
    (FirstRunsOut : I → Type 0) (Next : P → I → Outcome Q → Type 0) (NextBlames : P → I → E → Type 0) (NextRunsOut : P → I → Type 0)
    (IsResult : T → Y → Type 0) (mode : Modes) (i : I) → PResult I Y E → Type 0
ShowsThen w tree First FirstBlames FirstRunsOut Next NextBlames NextRunsOut IsResult mode i r =
    ShowsAnswer w IsResult mode i (Then w tree First Next i) (ThenBlames w First FirstBlames Next NextBlames i)
    (ThenRunsOut w First FirstRunsOut NextRunsOut i) r

module _ {I A P Q T Y E : Type 0} (w : Model I A) (l : InputLaws w) (tree : P → Q → T) (First : I → Outcome P → Type 0) (FirstBlames : I → E → Type 0)
    (FirstRunsOut : I → Type 0) (Next : P → I → Outcome Q → Type 0) (NextBlames : P → I → E → Type 0) (NextRunsOut : P → I → Type 0)
    (IsResult : T → Y → Type 0) (mode : Modes) (i : I) where
  module _ (j : I) (n : ℕ) (u : P) (a : First i (Accept n u)) (p : IsSuffixOf w i n j) where
    next_fact : (o : Outcome Q) → Next u j o → IsFault o → (e : E) → NextBlames u j e → ThenBlames w First FirstBlames Next NextBlames i e
    next_fact o b f e h = BlamesNext
        (record { length = n; tree = u; rest = j; accepted = a; rest_is = p; fact = record { outcome = o; answered = b; kind_is = f; fact = h } })

    shows_after : (o : Outcome Q) (r : PResult I Y E) → Next u j o →
        ShowsOutcome w (λ v. IsResult (tree u v)) mode j (NextBlames u j) o r → ShowsOutcome w IsResult mode i
        (ThenBlames w First FirstBlames Next NextBlames i)
        (after n (tree u) o) r
    shows_after (Accept m v) r b s = (s.0, s.1, rest_rest w l i n j m s.0 p s.2, s.3, s.4)
    shows_after Refuse r b s = (s.0, built_error mode.errors _ _ s.0 (next_fact Refuse b tt) s.1, s.2)
    shows_after (Stop (Fails cause)) r b s = (s.0, next_fact (Stop (Fails cause)) b tt s.0 s.1, s.2)
    shows_after (Stop (Needs k)) r b s = s

    -- where a first part accepts, what follows answers for both
    pub next_shown : (r : PResult I Y E) →
        ShowsAnswer w (λ v. IsResult (tree u v)) mode j (Next u j) (NextBlames u j) (NextRunsOut u j) r →
        ShowsThen w tree First FirstBlames FirstRunsOut Next NextBlames NextRunsOut IsResult mode i r
    next_shown r (RanOut f h) = RanOut f (RunsOutNext (record { length = n; tree = u; rest = j; accepted = a; rest_is = p; fact = h }))
    next_shown r (Shown o b s) = Shown (after n (tree u) o) (record { first = Accept n u; answered = a; goes_on = (j, o, p, b, refl) }) (shows_after o r b s)

module _ {I A P Q T X Y E : Type 0} (w : Model I A) (tree : P → Q → T) (First : I → Outcome P → Type 0) (FirstBlames : I → E → Type 0)
    (FirstRunsOut : I → Type 0) (Next : P → I → Outcome Q → Type 0) (NextBlames : P → I → E → Type 0) (NextRunsOut : P → I → Type 0)
    (IsFirst : P → X → Type 0) (IsResult : T → Y → Type 0) (built : Bool) (mode : Modes) (i : I) where
  first_fact : (o : Outcome P) → First i o → IsFault o → (e : E) → FirstBlames i e → ThenBlames w First FirstBlames Next NextBlames i e
  first_fact o a f e h = BlamesFirst (record { outcome = o; answered = a; kind_is = f; fact = h })

  first_err : (e : Answer.Err E (Option E) Needed) (o : Outcome P) → First i o → ShowsOutcome w IsFirst (with_outputs built mode) i (FirstBlames i) o (Err e) →
      ShowsThen w tree First FirstBlames FirstRunsOut Next NextBlames NextRunsOut IsResult mode i (Err e)
  first_err e (Accept n v) a s = cc (s.4)
  first_err e Refuse a s = Shown Refuse (record { first = Refuse; answered = a; goes_on = refl })
      (s.0, built_error mode.errors _ _ s.0 (first_fact Refuse a tt) s.1, cc (s.2))
  first_err e (Stop (Fails cause)) a s = Shown (Stop (Fails cause)) (record { first = Stop (Fails cause); answered = a; goes_on = refl })
      (s.0, first_fact (Stop (Fails cause)) a tt s.0 s.1, cc (s.2))
  first_err e (Stop (Needs k)) a s = Shown (Stop (Needs k)) (record { first = Stop (Needs k); answered = a; goes_on = refl }) (s.0, s.1, cc (s.2))

module _ {I A P Q T X Y E : Type 0} {w : Model I A} (l : InputLaws w) {tree : P → Q → T} {First : I → Outcome P → Type 0} {FirstBlames : I → E → Type 0}
    {FirstRunsOut : I → Type 0} {Next : P → I → Outcome Q → Type 0} {NextBlames : P → I → E → Type 0} {NextRunsOut : P → I → Type 0}
    {IsFirst : P → X → Type 0} {IsResult : T → Y → Type 0} {built : Bool} {mode : Modes} {i : I} where
  -- a first part that does not accept, and a `?` returns what it answered
  pub then_err : {e : Answer.Err E (Option E) Needed} {r : PResult I Y E} →
      ShowsAnswer w IsFirst (with_outputs built mode) i (First i) (FirstBlames i) (FirstRunsOut i) (Err e) → IsErr r × IsErrAnd r (λ y. y ≡ e) →
      ShowsThen w tree First FirstBlames FirstRunsOut Next NextBlames NextRunsOut IsResult mode i r
  then_err (RanOut f h) q = let is = err_from_residual q in RanOut (cc (is, f)) (RunsOutFirst h)
  then_err {e = e} (Shown o a s) q =
      subst (ShowsThen w tree First FirstBlames FirstRunsOut Next NextBlames NextRunsOut IsResult mode i) (sym (err_from_residual q))
      (first_err w tree First FirstBlames FirstRunsOut Next NextBlames NextRunsOut IsFirst IsResult built mode i e o a s)

  -- a first part accepts, and what follows answers for both
  pub then_ok : {j : I} {x : Option X} {r : PResult I Y E} →
      ShowsAnswer w IsFirst (with_outputs built mode) i (First i) (FirstBlames i) (FirstRunsOut i) (Ok (j, x)) →
      ((u : P) → Built built (IsFirst u) x → ShowsAnswer w (λ v. IsResult (tree u v)) mode j (Next u j) (NextBlames u j) (NextRunsOut u j) r) →
      ShowsThen w tree First FirstBlames FirstRunsOut Next NextBlames NextRunsOut IsResult mode i r
  then_ok {j = j} {r = r} h k =
      let a = accepts h in
      next_shown w l tree First FirstBlames FirstRunsOut Next NextBlames NextRunsOut IsResult mode i j a.length a.tree a.answered a.rest_is r
      (k a.tree a.built_is)

-- two outputs that are built alike
pub both_built : {X Y : Type 0} (IsFirst : X → Type 0) (IsSecond : Y → Type 0) (built : Bool) (x : Option X) (y : Option Y) (z : Option (X × Y)) →
    Built built IsFirst x → Built built IsSecond y → ((a : X) (b : Y) → x ≡ Some a → y ≡ Some b → z ≡ Some (a, b)) → (x ≡ None → z ≡ None) →
    Built built (λ o. IsFirst o.0 × IsSecond o.1) z
both_built IsFirst IsSecond true x y z p q both none = ((p.0, q.0), both p.0 q.0 p.1 q.1, (p.2, q.2))
both_built IsFirst IsSecond false x y z p q both none = none p

-- what `process` shows is shown by a result without its options
module _ {I A V O E : Type 0} (w : Model I A) (IsOutput : V → O → Type 0) (streaming : Bool) (i : I) (IsError : E → Type 0) where
  parses_of : (o : Outcome V) (p : PResult I O E) (r : IResult I O E) →
      HoldsSame p r → ShowsOutcome w IsOutput (modes true true streaming) i IsError o p → ParsesOutcome w IsOutput i IsError o r
  parses_of (Accept n v) p r h s = (s.0, s.3.0, s.2, s.3.2, subst (λ x. HoldsSame x r) (s.4 ∙ ap (λ b. Ok (s.0, b)) s.3.1) h)
  parses_of Refuse p r h s = (s.1.0, s.1.2, subst (λ x. HoldsSame x r) (s.2 ∙ ap (λ b. Err (Error b)) s.1.1) h)
  parses_of (Stop (Fails cause)) p r h s = (s.0, s.1, subst (λ x. HoldsSame x r) s.2 h)
  parses_of (Stop (Needs k)) p r h s = (s.0, s.1, subst (λ x. HoldsSame x r) s.2 h)

module _ {I A V O E : Type 0} {w : Model I A} {IsOutput : V → O → Type 0} {streaming : Bool} {i : I} {Answers : Outcome V → Type 0} {IsError : E → Type 0} where
  pub parsed : {RunsOut : Type 0} {p : PResult I O E} {r : IResult I O E} →
      HoldsSame p r → ShowsAnswer w IsOutput (modes true true streaming) i Answers IsError RunsOut p → ParsesAnswer w IsOutput i Answers IsError RunsOut r
  parsed {r = r} h (RanOut e k) = ParseRanOut (subst (λ x. HoldsSame x r) e h) k
  parsed {p = p} {r = r} h (Shown o a s) = Parsed o a (parses_of w IsOutput streaming i IsError o p r h s)

-- what a refusal at a leaf shows
pub refused : {I A V O E : Type 0} {w : Model I A} {IsOutput : V → O → Type 0} {mode : Modes} {i : I} {Answers : Outcome V → Type 0}
    {IsError : E → Type 0} {Grows : Type 0} {r : Answer.Err E (Option E) Needed} → Refuses IsError Grows mode.errors r → Answers Refuse →
    ShowsAnswer w IsOutput mode i Answers IsError (Answers Refuse × (mode.errors ≡ true) × Grows) (Err r)
refused (inl h) a = RanOut (ap Err h.0) (a, h.1, h.2)
refused (inr h) a = Shown Refuse a (h.0, h.1, ap Err h.2)

pub some_built : {T : Type 0} (b : Bool) (P : T → Type 0) (v : T) → b ≡ true → P v → Built b P (Some v)
some_built true P v h p = (v, refl, p)
some_built false P v h p = absurd (cc (h))

-- what a leaf shows of an acceptance, and where more is needed
module _ {I A V O E : Type 0} {w : Model I A} {IsOutput : V → O → Type 0} {mode : Modes} {i : I} {Answers : Outcome V → Type 0} {IsError : E → Type 0}
    {RunsOut : Type 0} where
  pub accepted : {n : ℕ} (v : V) {j : I} {x : Option O} → IsSuffixOf w i n j → Answers (Accept n v) → Built mode.outputs (IsOutput v) x →
      ShowsAnswer w IsOutput mode i Answers IsError RunsOut (Ok (j, x))
  accepted {n = n} v {j = j} {x = x} p a b = Shown (Accept n v) a (j, x, p, b, refl)

  pub undecided : {k : Option ℕ} {n : Needed} → size_of n ≡ k → Answers (Stop (Needs k)) →
      ShowsAnswer w IsOutput mode i Answers IsError RunsOut (Err (Incomplete n))
  undecided {k = k} {n = n} e a = Shown (Stop (Needs k)) a (n, e, refl)
