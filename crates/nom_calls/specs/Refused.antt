-- Answers of which a refusal is no error.
use Rattle.std.specs.Prelude.{◌≡◌, Err}
use Rattle.nom_error.specs.declared.answer.Err as Answer
use Rattle.nom_internal.specs.Prelude.{Error, IResult, Needed}

module _ {I O E : Type 0} where
  -- the answer is a refusal
  abbrev pub IsRefused : IResult I O E → Type 0
  IsRefused r = (e : E) × (r ≡ Err (Error e))

  -- it is f: a failure, a need for more input, or want of memory
  abbrev pub IsStopped : IResult I O E → Answer.Err E E Needed → Type 0
  IsStopped r f = (r ≡ Err f) × ((e : E) → f ≡ Error e → ⊥)
