-- An answer whose error is mapped.
use Rattle.std.proofs.Common.{◌≡◌, refl, sym, subst}
use Rattle.nom_error.specs.declared.answer.Needed.{Needed}
use Rattle.nom_error.specs.declared.answer.Err as Answer
use Rattle.nom_error.specs.declared.answer.Err.TheVariants.{Error, Failure}
use Rattle.nom_error.specs.Answers.{IsMapped}

module _ {D E : Type 0} (Gives : D → E → Type 0) (a : Answer.Err D D Needed) (d : D) (e : E) where
  pub mapped_error : a ≡ Error d → Gives d e → IsMapped Gives a (Error e)
  mapped_error is h = subst (λ x. IsMapped Gives x (Error e)) (sym is) (e, h, refl)

  pub mapped_failure : a ≡ Failure d → Gives d e → IsMapped Gives a (Failure e)
  mapped_failure is h = subst (λ x. IsMapped Gives x (Failure e)) (sym is) (e, h, refl)
