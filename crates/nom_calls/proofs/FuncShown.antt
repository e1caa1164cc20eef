-- Lemmas on the answers of `process` for a function.
use Rattle.std.proofs.Common.{◌≡◌, ℕ, Bool, Ok, Err, Option, refl, sym, subst, ap, inl, inr}
use Rattle.nom_internal.specs.Prelude.{Needed, Incomplete, Error, Failure, OutOfMemory, IResult, PResult, Errors, size_of, Built, Modes, Model, same_self, View}
use Rattle.nom_internal.specs.Prelude.{Outcome, Accept, Refuse, Stop, Fails, Needs, Outright, ShowsAnswer, Shown, RanOut, IsSuffixOf}
use Rattle.nom_error.specs.declared.answer.Err as Answer
use Rattle.nom_traits.specs.Cuts.{CutsAs, CutsNowhere}
use Rattle.nom_calls.specs.Func.{IsViewed, IsNoRestAt, AcceptsCut, PassesOn, TakenAs, FuncAnswers, FuncBlames, FuncRunsOut}
use Rattle.nom_calls.specs.Func.AcceptsCut.{AtRest, AtNone}
use Rattle.nom_calls.specs.Func.FuncBlames.{OfRefusal, OfFailure, OfNoRest}
use Rattle.nom_calls.specs.Func.FuncRunsOut.{RunsOutInside, RunsOutNoRest}
use Rattle.nom_internal.proofs.Shown.{built_error}

module _ {I A O E : Type 0} {w : Model I A} {view : View O} {Gives : I → IResult I O E → Type 0} {i : I} where
  -- the outcome that the function's answer is taken as
  answered : (o : Outcome view.Value) (r : IResult I O E) → w.IsKnown i → Gives i r → TakenAs w view i r o → FuncAnswers w view Gives i o
  answered o r h g t = record { at = i; known = h; consistent = same_self w i; outcome = record { answer = r; given = g; told = t } }

module _ {I A O E : Type 0} {w : Model I A} {view : View O} {errs : Errors I E} {Gives : I → IResult I O E → Type 0} {mode : Modes} {i : I} where
  func_ok : (n : ℕ) (j left : I) (v : O) (b : Option O) → w.IsKnown i → Gives i (Ok (left, v)) → CutsAs w i n left → IsSuffixOf w i n j →
      Built mode.outputs (λ u. u ≡ v) b →
      ShowsAnswer w (IsViewed view) mode i (FuncAnswers w view Gives i) (FuncBlames w errs Gives i) (FuncRunsOut w errs Gives i) (Ok (j, b))
  func_ok n j left v b h g c s k =
      Shown (Accept n (view.value v)) (answered (Accept n (view.value v)) (Ok (left, v)) h g (inl (n, c, refl)))
      (j, b, s, built_error mode.outputs _ _ b (λ u e. ap view.value e) k, refl)

  func_no_rest : (left : I) (v : O) (f : Answer.Err E (Option E) Needed) → w.IsKnown i → Gives i (Ok (left, v)) → CutsNowhere w i left → IsNoRestAt errs i f →
      ShowsAnswer w (IsViewed view) mode i (FuncAnswers w view Gives i) (FuncBlames w errs Gives i) (FuncRunsOut w errs Gives i) (Err f)
  func_no_rest left v f h g n (inl q) =
      Shown (Stop (Fails Outright)) (answered (Stop (Fails Outright)) (Ok (left, v)) h g (inr (n, refl))) (q.0, OfNoRest left v g n q.1, ap Err q.2)
  func_no_rest left v f h g n (inr q) = RanOut (ap Err q.1) (RunsOutNoRest left v g n q.0)

  func_accepted : {left : I} {v : O} {r : PResult I O E} → w.IsKnown i → Gives i (Ok (left, v)) → AcceptsCut w errs mode.outputs i left v r →
      ShowsAnswer w (IsViewed view) mode i (FuncAnswers w view Gives i) (FuncBlames w errs Gives i) (FuncRunsOut w errs Gives i) r
  func_accepted {left} {v} h g (AtRest n j b c s k e) =
      subst (λ z. ShowsAnswer w (IsViewed view) mode i (FuncAnswers w view Gives i) (FuncBlames w errs Gives i) (FuncRunsOut w errs Gives i) z) (sym e)
      (func_ok n j left v b h g c s k)
  func_accepted {left} {v} h g (AtNone f n q e) =
      subst (λ z. ShowsAnswer w (IsViewed view) mode i (FuncAnswers w view Gives i) (FuncBlames w errs Gives i) (FuncRunsOut w errs Gives i) z) (sym e)
      (func_no_rest left v f h g n q)

  pub func_shown : (r : IResult I O E) {q : PResult I O E} → w.IsKnown i → Gives i r → PassesOn w errs mode.outputs mode.errors i r q →
      ShowsAnswer w (IsViewed view) mode i (FuncAnswers w view Gives i) (FuncBlames w errs Gives i) (FuncRunsOut w errs Gives i) q
  func_shown (Ok (left, v)) h g p = func_accepted h g p
  func_shown (Err (Incomplete k)) h g p =
      Shown (Stop (Needs (size_of k))) (answered (Stop (Needs (size_of k))) (Err (Incomplete k)) h g refl) (k, refl, p)
  func_shown (Err (Error e)) h g p =
      Shown Refuse (answered Refuse (Err (Error e)) h g refl)
      (p.0, built_error mode.errors _ _ p.0 (λ x y. OfRefusal (subst (λ z. Gives i (Err (Error z))) (sym y) g)) p.1, p.2)
  func_shown (Err (Failure e)) h g p =
      Shown (Stop (Fails Outright)) (answered (Stop (Fails Outright)) (Err (Failure e)) h g refl) (e, OfFailure g, p)
  func_shown (Err OutOfMemory) h g p = RanOut p (RunsOutInside g)

-- what is answered for an acceptance
pub passes_accepted : {I A O E : Type 0} {w : Model I A} {errs : Errors I E} {outputs : Bool} (errors : Bool) {i left : I} {v : O} (a : IResult I O E)
    {q : PResult I O E} → a ≡ Ok (left, v) → AcceptsCut w errs outputs i left v q → PassesOn w errs outputs errors i a q
passes_accepted {w = w} {errs} {outputs} errors {i} a {q} e h = subst (λ z. PassesOn w errs outputs errors i z q) (sym e) h
