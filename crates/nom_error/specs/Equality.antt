-- When two answers are equal.
use Rattle.std.specs.Prelude.{◌≡◌, Bool, IsTrue}
use Rattle.nom_error.specs.declared.answer.Needed.{Needed}
use Rattle.nom_error.specs.declared.answer.Err as Answer
use Rattle.nom_error.specs.declared.answer.Err.TheVariants.{Incomplete, Error, Failure, OutOfMemory}
use Rattle.nom_error.specs.declared.finish.FinishError.{FinishError}
use Rattle.nom_error.specs.declared.finish.FinishError.TheVariants as Finish

-- answers of one variant, whose errors are equal, or that need the same
abbrev pub AreSame : {F E : Type 0} → (F → F → Bool) → (E → E → Bool) → Answer.Err F E Needed → Answer.Err F E Needed → Type 0
AreSame failures refusals (Incomplete k) (Incomplete l) = k ≡ l
AreSame failures refusals (Error d) (Error e) = IsTrue (refusals d e)
AreSame failures refusals (Failure d) (Failure e) = IsTrue (failures d e)
AreSame failures refusals OutOfMemory OutOfMemory = Unit {0}
AreSame failures refusals _ _ = ⊥

-- errors of finished parses, of one variant, that hold equal errors
abbrev pub AreFinishedSame : {E : Type 0} → (E → E → Bool) → FinishError E → FinishError E → Type 0
AreFinishedSame errors (Finish.Parse d) (Finish.Parse e) = IsTrue (errors d e)
AreFinishedSame errors Finish.OutOfMemory Finish.OutOfMemory = Unit {0}
AreFinishedSame errors _ _ = ⊥
