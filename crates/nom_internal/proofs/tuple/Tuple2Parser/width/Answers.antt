use Rattle.nom_internal.proofs.Widths.{built_width, pair_width}
use Rattle.nom_internal.proofs.tuple.Tuple2Parser.width.Goals as goal

pub returns : goal.returns
returns g c = built_width (pair_width g.met.I.Items.lawful c.width-a.ensures c.width-b.ensures c.both_widths.ensures)
