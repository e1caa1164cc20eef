use Rattle.nom_internal.proofs.Widths.{built_width, pair_width}
use Rattle.nom_internal.proofs.tuple.Tuple4Parser.width.Goals as goal

pub returns : goal.returns
returns g c =
    let c_on = pair_width g.met.I.Items.lawful c.width-c.ensures c.width-d.ensures c.both_widths-c_on.ensures in
    let b_on = pair_width g.met.I.Items.lawful c.width-b.ensures c_on c.both_widths-b_on.ensures in
    built_width (pair_width g.met.I.Items.lawful c.width-a.ensures b_on c.both_widths.ensures)
