-- Lemmas on the answers of expressions whose fold refuses, or finds no memory.
use Rattle.std.specs.Prelude.{◌≡◌, Option, Some, None, Result, Ok, Err, is_ok, refl}
use Rattle.std.proofs.Common.{ap, inr, subst, sym, true}
use Rattle.nom_error.specs.declared.answer.Err as Answer
use Rattle.nom_internal.specs.Prelude.{Model, Modes, Meaning, Needed, PResult, ShowsMeaning, RanOut, OfError, judged_meaning, with_outputs}
use Rattle.nom_internal.proofs.Judges.{judged_unfit}
use Rattle.nom_internal.proofs.Shown.{accepts}
use Rattle.nom_language.specs.Allocations.{IsReturned, StopsFold}
use Rattle.nom_language.specs.Precedences.{lacking_if}
use Rattle.nom_language.specs.declared.allocating.FoldError.{FoldError}
use Rattle.nom_language.specs.declared.allocating.FoldError.TheVariants.{Refused, OutOfMemory}
use Rattle.nom_language.proofs.EvaluationShown.{runs_out_beside}

module _ {I A V O Y Z E : Type 0} {w : Model I A} (Evaluates : V → Result O Y → Type 0) {IsResult : V → Z → Type 0} (m : Meaning I V E)
    {mode : Modes} {i : I} where
  -- what is shown stays shown where memory may run out too
  pub lacking_if_shown : (read : Meaning I V E) (no_memory : Option Y) {r : PResult I Z E} → ShowsMeaning w IsResult read mode i r →
      ShowsMeaning w IsResult (lacking_if no_memory Evaluates m read) mode i r
  lacking_if_shown read None h = h
  lacking_if_shown read (Some y) h = runs_out_beside h

  -- no memory for what was accepted
  lacking_shown : (read : Meaning I V E) {j : I} {no_memory : Option Y} {y : Y} {x : Option (Result O Y)} {k : Answer.Err E (Option E) Needed} →
      no_memory ≡ Some y → x ≡ Some (Err y) → ShowsMeaning w Evaluates m (with_outputs true mode) i (Ok (j, x)) → k ≡ Answer.Err.OutOfMemory →
      ShowsMeaning w IsResult (lacking_if no_memory Evaluates m read) mode i (Err k)
  lacking_shown read {y = y} {k = k} p e h f =
      let a = accepts h in
      let b = a.built_is in
      subst (λ z. ShowsMeaning w IsResult (lacking_if z Evaluates m read) mode i (Err k)) (sym p) (RanOut (ap Err f) (inr (record {
        accepts = record { length = a.length; tree = a.tree; accepted = a.answered };
        lacks = subst (Evaluates a.tree) (let same : b.0 ≡ Err y = cc (b.1, e) in same) b.2;
      })))

  -- the fold gives no value of what was accepted
  pub stopped_shown : {X : Type 0} (Makes : I → X → E → Type 0) (Grows : Type 0) (Returns : Result O Y → Result O X → Type 0) (no_memory : Option Y)
      (f : FoldError X) {y : Y} {j : I} {x : Option (Result O Y)} {k : Answer.Err E (Option E) Needed} → IsReturned Returns no_memory y f → x ≡ Some (Err y) →
      ShowsMeaning w Evaluates m (with_outputs true mode) i (Ok (j, x)) → StopsFold (Makes i) Grows mode.errors f k →
      ShowsMeaning w IsResult (lacking_if no_memory Evaluates m (judged_meaning Evaluates (λ _. Unit {0}) Returns is_ok (λ k. OfError (Makes k)) Grows m))
      mode i (Err k)
  stopped_shown Makes Grows Returns no_memory (Refused z) t e h q = lacking_if_shown _ no_memory (judged_unfit {Takes = λ _. Unit {0}} {Gives = Returns}
      (λ k. OfError (Makes k)) m {r = Err z} (record { takes = λ t p h. tt }) e t refl h q)
  stopped_shown Makes Grows Returns no_memory OutOfMemory t e h q =
      lacking_shown (judged_meaning Evaluates (λ _. Unit {0}) Returns is_ok (λ k. OfError (Makes k)) Grows m) t e h q
