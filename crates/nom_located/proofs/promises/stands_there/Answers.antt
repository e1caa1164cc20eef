use Rattle.std.proofs.Common.{ap}
use Rattle.nom_located.proofs.promises.stands_there.Goals as goal

pub returns : goal.returns
returns g c = ap (λ m. m.0.0) c.requires.mark_is
