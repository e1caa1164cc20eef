use Rattle.nom_bytes.proofs.TakeWidth.{take_width}
use Rattle.nom_bytes.proofs.leaf.TakeParser.width.Goals as goal

pub returns : goal.returns
returns g c = take_width g.I.Items.model g.E.ParseError.errors g.I.Input.lack c.args.self.now.count
