-- Lemmas on parts whose outputs or errors become others.
use Rattle.std.proofs.Common.{◌≡◌, Bool, true, false, Ok, Err, Option, Some, None, refl, sym, subst}
use Rattle.nom_internal.specs.Prelude.{PResult, Needed, Built, Modes, Model, Outcome, Accept, Refuse, Stop, Fails, Needs, IsFault, ShowsOutcome, RanOut, Shown}
use Rattle.nom_internal.specs.Prelude.{Meaning, ShowsMeaning, RunsOutInPart, GivesFor, IsCallable, map_case, map_meaning, into_meaning, ConvertsSome}
use Rattle.nom_internal.specs.Prelude.{ConvertsResult}
use Rattle.nom_error.specs.declared.answer.Err as Answer
use Rattle.nom_internal.proofs.Shown.{accepts}
use Rattle.nom_internal.proofs.Cased.{here, passing_err}

-- an output that is built is given to a closure, and none elsewhere
module _ {V P R : Type 0} (IsOutput : V → P → Type 0) (Gives : P → R → Type 0) (t : V) where
  some_given : (built : Bool) (x : Option P) (p : P) (r : R) → x ≡ Some p → Gives p r → Built built (IsOutput t) x →
      Built built (GivesFor IsOutput Gives t) (Some r)
  some_given true x p r e g h = let same : h.0 ≡ p = cc (h.1, e) in (r, refl, record { output = p; is_output = subst (IsOutput t) same h.2; given = g })
  some_given false x p r e g h = absurd (cc (h, e))

  none_given : (built : Bool) (x : Option P) → x ≡ None → Built built (IsOutput t) x → Built built (GivesFor IsOutput Gives t) None
  none_given true x e h = absurd (cc (h.1, e))
  none_given false x e h = refl

abbrev MapShown : {I A V P R E : Type 0} (w : Model I A) (IsOutput : V → P → Type 0) (Takes : P → Type 0) (Gives : P → R → Type 0) (m : Meaning I V E)
    (mode : Modes) (i : I) → PResult I R E → Type 0
MapShown w IsOutput Takes Gives m mode i = ShowsMeaning w (GivesFor IsOutput Gives) (map_meaning IsOutput Takes m) mode i

-- The premise that a closure takes the outputs tells which closure it is.
module _ {I A V P R E : Type 0} {w : Model I A} {IsOutput : V → P → Type 0} {Takes : P → Type 0} {Gives : P → R → Type 0} (m : Meaning I V E)
    {mode : Modes} {i : I} where
  -- whatever isn't an acceptance passes
  pub map_err : {f : Answer.Err E (Option E) Needed} {r : PResult I R E} → IsCallable IsOutput Takes →
      ShowsMeaning w IsOutput m mode i (Err f) → r ≡ Err f → MapShown w IsOutput Takes Gives m mode i r
  map_err k h e = subst (λ z. MapShown w IsOutput Takes Gives m mode i z) (sym e)
      (passing_err w IsOutput (GivesFor IsOutput Gives)
      (map_case IsOutput Takes) m mode i
      (record {
        at_is = refl;
        refuses = λ b q. (refl, refl, λ z h. h);
        undecided = λ n q d. refl;
        fails = λ _. refl;
        blames_failure = λ _ z h. h;
      }) refl h)

  -- an output that was built is mapped, and none elsewhere
  pub map_some : {j : I} {x : Option P} {p : P} {r : R} → IsCallable IsOutput Takes → x ≡ Some p → Gives p r →
      ShowsMeaning w IsOutput m mode i (Ok (j, x)) → MapShown w IsOutput Takes Gives m mode i (Ok (j, Some r))
  map_some {j = j} {x = x} {p = p} {r = r} k e g h =
      let a = accepts h in
      Shown (Accept a.length a.tree) (here (Accept a.length a.tree) a.answered refl)
      (j, Some r, a.rest_is, some_given IsOutput Gives a.tree mode.outputs x p r e g a.built_is, refl)

  pub map_none : {j : I} {x : Option P} → IsCallable IsOutput Takes → x ≡ None → ShowsMeaning w IsOutput m mode i (Ok (j, x)) →
      MapShown w IsOutput Takes Gives m mode i (Ok (j, None))
  map_none {j = j} {x = x} k e h =
      let a = accepts h in
      Shown (Accept a.length a.tree) (here (Accept a.length a.tree) a.answered refl)
      (j, None, a.rest_is, none_given IsOutput Gives a.tree mode.outputs x e a.built_is, refl)

-- a value that is built is converted
converts_built : {T U : Type 0} (built : Bool) (Converts : T → U → Type 0) (P : T → Type 0) (Q : U → Type 0) (x : Option T) (y : Option U) →
    ((a : T) (b : U) → P a → Converts a b → Q b) → ConvertsSome Converts x y → Built built P x → Built built Q y
converts_built true Converts P Q x y f c h = let d = subst (λ z. ConvertsSome Converts z y) h.1 c in (d.0, d.2, f h.0 d.0 h.2 d.1)
converts_built false Converts P Q x y f c h = subst (λ z. ConvertsSome Converts z y) h c

module _ {I A V P R E F : Type 0} (w : Model I A) (IsOutput : V → P → Type 0) (Gives : P → R → Type 0) (Converts : E → F → Type 0) (m : Meaning I V E)
    (mode : Modes) (i : I) where
  abbrev IntoShown : PResult I R F → Type 0
  IntoShown = ShowsMeaning w (GivesFor IsOutput Gives) (into_meaning Converts m) mode i

  -- the part's error, converted
  blamed : (o : Outcome V) → m.answers mode.streaming i o → IsFault o → (e : E) (f : F) → m.blames mode.streaming i e → Converts e f →
      (into_meaning Converts m).blames mode.streaming i f
  blamed o a fault e f b c = here o a (e, fault, b, c)

  into_of : (o : Outcome V) (r : PResult I P E) (s : PResult I R F) →
      m.answers mode.streaming i o → ShowsOutcome w IsOutput mode i (m.blames mode.streaming i) o r → ConvertsResult Gives Converts r s → IntoShown s
  into_of (Accept n v) r s a h c =
      let d = subst (λ z. ConvertsResult Gives Converts z s) h.4 c in
      Shown (Accept n v) (here (Accept n v) a refl) (
        h.0,
        d.0,
        h.2,
        converts_built mode.outputs Gives (IsOutput v)
            (GivesFor IsOutput Gives v) h.1 d.0 (λ p x k g. record { output = p; is_output = k; given = g }) d.1 h.3,
        d.2,
      )
  into_of Refuse r s a h c =
      let d = subst (λ z. ConvertsResult Gives Converts z s) h.2 c in
      Shown Refuse (here Refuse a refl) (
        d.0,
        converts_built mode.errors Converts (m.blames mode.streaming i)
            ((into_meaning Converts m).blames mode.streaming i) h.0 d.0 (blamed Refuse a tt) d.1 h.1,
        d.2,
      )
  into_of (Stop (Fails cause)) r s a h c =
      let d = subst (λ z. ConvertsResult Gives Converts z s) h.2 c in
      Shown (Stop (Fails cause)) (here (Stop (Fails cause)) a refl) (d.0, blamed (Stop (Fails cause)) a tt h.0 d.0 h.1 d.1, d.2)
  into_of (Stop (Needs k)) r s a h c = Shown (Stop (Needs k)) (here (Stop (Needs k)) a refl) (h.0, h.1, subst (λ z. ConvertsResult Gives Converts z s) h.2 c)

  pub into_shown : (r : PResult I P E) (s : PResult I R F) →
      ShowsMeaning w IsOutput m mode i r → ConvertsResult Gives Converts r s → IntoShown s
  into_shown r s (RanOut e h) c = RanOut (subst (λ z. ConvertsResult Gives Converts z s) e c) (RunsOutInPart i refl h)
  into_shown r s (Shown o a h) c = into_of o r s a h c
