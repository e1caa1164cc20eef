use Rattle.std.proofs.Common.{refl}
use Rattle.nom_error.proofs.Mapped.{mapped_error, mapped_failure}
use Rattle.nom_error.proofs.owned.Err+tuple2+ref+slice+u8+ErrorKind.to_owned.Goals as goal

pub returns-in_ok-owned_bytes-in-Error : goal.returns-in_ok-owned_bytes-in-Error
returns-in_ok-owned_bytes-in-Error g c = mapped_error _ _ _ _ c.in-Error.is (c.in_ok-owned_bytes-in-Error.ensures, refl)

pub returns-in_ok-owned_bytes-in-Failure : goal.returns-in_ok-owned_bytes-in-Failure
returns-in_ok-owned_bytes-in-Failure g c = mapped_failure _ _ _ _ c.in-Failure.is (c.in_ok-owned_bytes-in-Failure.ensures, refl)
