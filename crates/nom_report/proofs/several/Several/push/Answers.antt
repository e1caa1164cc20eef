use Rattle.nom_report.proofs.Fronts.{front_set}
use Rattle.nom_report.proofs.several.Several.push.Goals as goal

pub returns : goal.returns
returns c = front_set _ c.args.self.now.items c.args.self.now.len _ c.args.it c.args.self.now.room c.requires
