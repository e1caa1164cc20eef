-- Lemmas on a part whose outputs are never built.
use Rattle.std.proofs.Common.{◌≡◌, Ok, Err, Option, refl, sym, subst}
use Rattle.std.specs.Result.{IsErrAnd, IsErr}
use Rattle.std.specs.Prelude.{false}
use Rattle.nom_internal.specs.Prelude.{PResult, Needed, Built, Modes, with_outputs, Model, Accept, Shown, Meaning, ShowsMeaning}
use Rattle.nom_error.specs.declared.answer.Err as Answer
use Rattle.nom_internal.proofs.Cased.{here, plain_err}
use Rattle.nom_internal.proofs.Shown.{accepts, built_error, err_from_residual}
use Rattle.nom_multi_fold.specs.Dropped.{dropped_meaning}

module _ {I A V O E : Type 0} {w : Model I A} (IsOutput : V → O → Type 0) (m : Meaning I V E) {mode : Modes} {i : I} where
  pub dropped_err : {e : Answer.Err E (Option E) Needed} {r : PResult I (Unit {0}) E} →
      ShowsMeaning w IsOutput m (with_outputs false mode) i (Err e) → IsErr r × IsErrAnd r (λ y. y ≡ e) →
      ShowsMeaning w (λ _ _. Unit {0}) (dropped_meaning m) mode i r
  dropped_err {e = e} h q = subst (ShowsMeaning w (λ _ _. Unit {0}) (dropped_meaning m) mode i) (sym (err_from_residual q))
      (plain_err w IsOutput (λ _ _. Unit {0}) (λ _. false) (λ (j : I) n v o. o ≡ Accept n v) m mode i e h)

  pub dropped_ok : {j : I} {x : Option O} {y : Option (Unit {0})} → ShowsMeaning w IsOutput m (with_outputs false mode) i (Ok (j, x)) →
      Built mode.outputs (λ u. u ≡ tt) y → ShowsMeaning w (λ _ _. Unit {0}) (dropped_meaning m) mode i (Ok (j, y))
  dropped_ok {j = j} {y = y} h b =
      let a = accepts h in
      Shown (Accept a.length a.tree) (here (Accept a.length a.tree) a.answered refl) (j, y, a.rest_is, built_error mode.outputs _ _ y (λ u e. tt) b, refl)
