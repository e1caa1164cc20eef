-- Lemmas on `process` where the errors of refusals aren't built: it shows what `parse` does, all but refusals.
use Rattle.std.proofs.Common.{◌≡◌, Bool, true, false, Ok, Err, Option, Some, refl, sym, ◌∙◌, ap, subst, inr}
use Rattle.nom_internal.specs.Prelude.{Needed, Incomplete, Failure, modes, size_of, Grammar, Parses, Model, Outcome, Accept, Refuse, Stop, Fails, Needs}
use Rattle.nom_internal.specs.Prelude.{ShowsAnswer, ParsesAnswer, IResult, Shown, RanOut, Parsed, ParseRanOut}
use Rattle.nom_error.specs.declared.answer.Err as Answer
use Rattle.nom_internal.proofs.Shown.{accepts}
use Rattle.nom_report.specs.Twice.{parsed_twice}

module _ {I A V O E : Type 0} (w : Model I A) (IsOutput : V → O → Type 0) (s : Bool) (i : I) (Answers : Outcome V → Type 0) (IsError : E → Type 0)
    (RunsOut Out : Type 0) where
  pub accepted : (j : I) (x : Option O) (o : O) → x ≡ Some o → ShowsAnswer w IsOutput (modes true false s) i Answers IsError RunsOut (Ok (j, x)) →
      ParsesAnswer w IsOutput i Answers IsError Out (Ok (j, o))
  accepted j x o e h =
      let a = accepts h in
      let same : a.built_is.0 ≡ o = cc (sym a.built_is.1 ∙ e) in
      Parsed (Accept a.length a.tree) a.answered (j, o, a.rest_is, subst (IsOutput a.tree) same a.built_is.2, refl)

  needs_more : (k : Needed) → ShowsAnswer w IsOutput (modes true false s) i Answers IsError RunsOut (Err (Incomplete k)) →
      ParsesAnswer w IsOutput i Answers IsError Out (Err (Incomplete k))
  needs_more k (RanOut e h) = absurd (cc)
  needs_more k (Shown (Accept n v) a x) = absurd (cc (x.4))
  needs_more k (Shown Refuse a x) = absurd (cc (x.2))
  needs_more k (Shown (Stop (Fails cause)) a x) = absurd (cc (x.2))
  needs_more k (Shown (Stop (Needs size)) a x) =
      let same : k ≡ x.0 = cc (x.2) in
      Parsed (Stop (Needs size)) a (k, ap size_of same ∙ x.1, refl)

  fails : (e : E) → ShowsAnswer w IsOutput (modes true false s) i Answers IsError RunsOut (Err (Failure e)) →
      ParsesAnswer w IsOutput i Answers IsError Out (Err (Failure e))
  fails e (RanOut q h) = absurd (cc)
  fails e (Shown (Accept n v) a x) = absurd (cc (x.4))
  fails e (Shown Refuse a x) = absurd (cc (x.2))
  fails e (Shown (Stop (Fails cause)) a x) =
      let same : x.0 ≡ e = cc (x.2) in
      Parsed (Stop (Fails cause)) a (e, subst IsError same x.1, refl)
  fails e (Shown (Stop (Needs size)) a x) = absurd (cc (x.2))

  pub incomplete : (f : Answer.Err E (Option E) Needed) (k : Needed) → f ≡ Incomplete k →
      ShowsAnswer w IsOutput (modes true false s) i Answers IsError RunsOut (Err f) → ParsesAnswer w IsOutput i Answers IsError Out (Err (Incomplete k))
  incomplete f k e h = needs_more k (subst (λ x. ShowsAnswer w IsOutput (modes true false s) i Answers IsError RunsOut (Err x)) e h)

  pub failure : (f : Answer.Err E (Option E) Needed) (e : E) → f ≡ Failure e →
      ShowsAnswer w IsOutput (modes true false s) i Answers IsError RunsOut (Err f) → ParsesAnswer w IsOutput i Answers IsError Out (Err (Failure e))
  failure f e q h = fails e (subst (λ x. ShowsAnswer w IsOutput (modes true false s) i Answers IsError RunsOut (Err x)) q h)

module _ {I A V O E : Type 0} (w : Model I A) (g : Grammar I V O E) (s : Bool) (i : I) where
  -- what one parse answers, where memory may run out in either
  pub in_either : {r : IResult I O E} → Parses w g s i r → Parses w (parsed_twice g) s i r
  in_either (ParseRanOut e h) = ParseRanOut e (inr h)
  in_either (Parsed o a h) = Parsed o a h
