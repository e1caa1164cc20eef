use Rattle.nom_report.proofs.Inner.{stays_within}
use Rattle.nom_report.proofs.promises.stays_within.Goals as goal

pub returns : goal.returns
returns g c = stays_within g.I.Items.model g.I.Placed.place g.met.I.Placed.rests
