-- Lemmas on the answers of tuples, from what their members showed.
use Rattle.std.proofs.Common.{◌≡◌, Bool, true, false, Result, Ok, Err, Option, Some, sym, subst}
use Rattle.nom_error.specs.declared.answer.Needed.{Needed}
use Rattle.nom_error.specs.declared.answer.Err as Answer
use Rattle.nom_internal.specs.Prelude.{Built, Modes, Model, Grammar, ShowsMeaning}
use Rattle.nom_internal.specs.Results.{with_output}

-- what a member showed, without its option
module _ {I A V O E : Type 0} {w : Model I A} (g : Grammar I V O E) (mode : Modes) {i : I} where
  pub member_err : {e : Answer.Err E (Option E) Needed} {r : Result (I × O) (Answer.Err E (Option E) Needed)} →
      ShowsMeaning w g.IsOutput g.meaning mode i (Err e) → r ≡ Err e → ShowsMeaning w g.IsOutput g.meaning mode i (with_output r)
  member_err h e = subst (λ x. ShowsMeaning w g.IsOutput g.meaning mode i (with_output x)) (sym e) h

  pub member_some : {j : I} {x : Option O} {o : O} → ShowsMeaning w g.IsOutput g.meaning mode i (Ok (j, x)) → x ≡ Some o →
      ShowsMeaning w g.IsOutput g.meaning mode i (Ok (j, Some o))
  member_some {j = j} h e = subst (λ y. ShowsMeaning w g.IsOutput g.meaning mode i (Ok (j, y))) e h

-- what is built, where it is
pub some_fact : {T : Type 0} (P : T → Type 0) (v : T) → Built true P (Some v) → P v
some_fact P v h = let same : h.0 ≡ v = cc (h.1) in subst P same h.2

-- what is built of outputs that were built
pub built_as : {T : Type 0} (b : Bool) (P : T → Type 0) (y : Option T) {t : T} → Built b (λ x. x ≡ t) y → P t → Built b P y
built_as true P y h k = (h.0, h.1, subst P (sym h.2) k)
built_as false P y h k = h
