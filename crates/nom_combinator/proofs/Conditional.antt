-- Lemmas on a part that runs on a condition.
use Rattle.std.proofs.Common.{◌≡◌, Bool, true, false, Ok, Err, Option, Some, None, refl, sym, subst}
use Rattle.nom_internal.specs.Prelude.{PResult, Needed, Built, Modes, Model, InputLaws, Grammar, Shows}
use Rattle.nom_error.specs.declared.answer.Err as Answer
use Rattle.nom_internal.proofs.Cased.{labels_err, labels_ok}
use Rattle.nom_internal.proofs.Shown.{accepted}
use Rattle.nom_combinator.specs.Conditions.{cond_of}
use Rattle.nom_combinator.specs.Verdicts.{OptOutput}
use Rattle.nom_internal.proofs.Consumed.{rest_self}
use Rattle.nom_combinator.proofs.Judged.{option_built}

module _ {I A P O E : Type 0} (w : Model I A) (g : Grammar I P O E) (mode : Modes) (i : I) where
  abbrev CondShown : Bool → PResult I (Option O) E → Type 0
  CondShown b = Shows w (cond_of b g) mode i

  pub cond_err : (b : Bool) → b ≡ true → (e : Answer.Err E (Option E) Needed) (r : PResult I (Option O) E) → Shows w g mode i (Err e) →
      r ≡ Err e → CondShown b r
  cond_err b q e r h is =
      let shown = labels_err w (λ t. Some t) g.IsOutput (OptOutput g.IsOutput) g.meaning mode.outputs mode i e h in
      subst (λ z. CondShown z r) (sym q) (subst (λ z. CondShown true z) (sym is) shown)

  pub cond_ok : (b : Bool) → b ≡ true → (j : I) (x : Option O) (y : Option (Option O)) → Shows w g mode i (Ok (j, x)) →
      Built mode.outputs (λ z. z ≡ x) y → CondShown b (Ok (j, y))
  cond_ok b q j x y h k =
      subst (λ z. CondShown z (Ok (j, y))) (sym q)
      (labels_ok w (λ t. Some t) g.IsOutput (OptOutput g.IsOutput) g.meaning mode.outputs mode i j x y h
      (λ u v. option_built g.IsOutput mode.outputs u x y v k))

  pub cond_none : InputLaws w → w.IsKnown i → (b : Bool) → b ≡ false → (y : Option (Option O)) → Built mode.outputs (λ z. z ≡ None) y →
      CondShown b (Ok (i, y))
  cond_none l known b q y k = subst (λ z. CondShown z (Ok (i, y))) (sym q) (accepted None (rest_self w l i known) (refl, refl) k)
