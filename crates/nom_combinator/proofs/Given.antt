-- Lemmas on a value in the place of what a part accepts.
use Rattle.std.proofs.Common.{◌≡◌, Ok, Err, Option, refl, sym, subst}
use Rattle.nom_internal.specs.Prelude.{PResult, Needed, Built, Modes, Model, Accept, Shown, Meaning, ShowsMeaning}
use Rattle.nom_error.specs.declared.answer.Err as Answer
use Rattle.nom_internal.proofs.Shown.{accepts}
use Rattle.nom_internal.proofs.Cased.{here, passing_err}
use Rattle.nom_combinator.specs.Outputs.{value_case, value_meaning}

module _ {I A P O T E : Type 0} (w : Model I A) (IsOutput : P → O → Type 0) (IsClone : T → Type 0) (v : T) (IsSure : Type 0) (m : Meaning I P E)
    (mode : Modes) (i : I) where
  abbrev ValueShown : PResult I T E → Type 0
  ValueShown = ShowsMeaning w (λ _. IsClone) (value_meaning v IsSure m) mode i

  -- whatever isn't an acceptance passes
  pub value_err : (f : Answer.Err E (Option E) Needed) (r : PResult I T E) →
      ShowsMeaning w IsOutput m mode i (Err f) → r ≡ Err f → ValueShown r
  value_err f r h e = subst (λ z. ValueShown z) (sym e)
      (passing_err w IsOutput (λ _. IsClone)
      (value_case v IsSure) m mode i
      (record {
        at_is = refl;
        refuses = λ b e. (refl, refl, λ z h. h);
        fails = λ _. refl;
        undecided = λ n e k. refl;
        blames_failure = λ _ z h. h;
      }) refl h)

  -- an acceptance gives a clone
  pub value_ok : (j : I) (x : Option O) (b : Option T) → ShowsMeaning w IsOutput m mode i (Ok (j, x)) → Built mode.outputs IsClone b → ValueShown (Ok (j, b))
  value_ok j x b h k = let a = accepts h in Shown (Accept a.length v) (here (Accept a.length a.tree) a.answered refl) (j, b, a.rest_is, k, refl)
