use Rattle.nom_error.proofs.Mapped.{mapped_error, mapped_failure}
use Rattle.nom_error.proofs.owned.Err+Error+ref+slice+u8.to_owned.Goals as goal

pub returns-in_ok-cloned-in-Error : goal.returns-in_ok-cloned-in-Error
returns-in_ok-cloned-in-Error g c = mapped_error _ _ _ _ c.in-Error.is (c.in_ok-cloned-in-Error.ensures)

pub returns-in_ok-cloned-in-Failure : goal.returns-in_ok-cloned-in-Failure
returns-in_ok-cloned-in-Failure g c = mapped_failure _ _ _ _ c.in-Failure.is (c.in_ok-cloned-in-Failure.ensures)
