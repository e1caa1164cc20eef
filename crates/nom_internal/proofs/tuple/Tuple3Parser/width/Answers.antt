use Rattle.nom_internal.proofs.Widths.{built_width, pair_width}
use Rattle.nom_internal.proofs.tuple.Tuple3Parser.width.Goals as goal

pub returns : goal.returns
returns g c =
    let b_on = pair_width g.met.I.Items.lawful c.width-b.ensures c.width-c.ensures c.both_widths-b_on.ensures in
    built_width (pair_width g.met.I.Items.lawful c.width-a.ensures b_on c.both_widths.ensures)
