use Rattle.std.proofs.Common.{refl}
use Rattle.nom_error.proofs.Mapped.{mapped_error, mapped_failure}
use Rattle.nom_error.proofs.owned.Err+tuple2+ref+str+ErrorKind.to_owned.Goals as goal

pub returns-in_ok-owned_text-in-Error : goal.returns-in_ok-owned_text-in-Error
returns-in_ok-owned_text-in-Error g c = mapped_error _ _ _ _ c.in-Error.is (c.in_ok-owned_text-in-Error.ensures, refl)

pub returns-in_ok-owned_text-in-Failure : goal.returns-in_ok-owned_text-in-Failure
returns-in_ok-owned_text-in-Failure g c = mapped_failure _ _ _ _ c.in-Failure.is (c.in_ok-owned_text-in-Failure.ensures, refl)
