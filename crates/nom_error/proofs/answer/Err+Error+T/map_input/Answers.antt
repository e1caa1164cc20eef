use Rattle.std.proofs.Common.{refl}
use Rattle.nom_error.proofs.Mapped.{mapped_error, mapped_failure}
use Rattle.nom_error.proofs.answer.Err+Error+T.map_input.Goals as goal

pub returns-in-Error : goal.returns-in-Error
returns-in-Error g c = mapped_error _ _ _ _ c.in-Error.is (c.f.ensures, refl)

pub returns-in-Failure : goal.returns-in-Failure
returns-in-Failure g c = mapped_failure _ _ _ _ c.in-Failure.is (c.f-in-Failure.ensures, refl)
