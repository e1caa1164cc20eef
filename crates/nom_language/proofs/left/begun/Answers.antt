use Rattle.std.proofs.Common.{refl}
use Rattle.nom_language.proofs.left.begun.Goals as goal

pub returns-in-Some : goal.returns-in-Some
returns-in-Some g c = rw c.in-Some.is (_, refl, (refl, refl))
