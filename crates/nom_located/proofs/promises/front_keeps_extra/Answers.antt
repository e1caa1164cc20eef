use Rattle.std.proofs.Common.{ap}
use Rattle.nom_located.proofs.promises.front_keeps_extra.Goals as goal

pub returns : goal.returns
returns g c = ap (λ m. m.0.1) c.requires.mark_is
