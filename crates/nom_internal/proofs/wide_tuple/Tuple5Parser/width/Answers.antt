use Rattle.nom_internal.proofs.Widths.{built_width, pair_width}
use Rattle.nom_internal.proofs.wide_tuple.Tuple5Parser.width.Goals as goal

pub returns : goal.returns
returns g c =
    let d_on = pair_width g.met.I.Items.lawful c.width-d.ensures c.width-e.ensures c.both_widths-d_on.ensures in
    let c_on = pair_width g.met.I.Items.lawful c.width-c.ensures d_on c.both_widths-c_on.ensures in
    let b_on = pair_width g.met.I.Items.lawful c.width-b.ensures c_on c.both_widths-b_on.ensures in
    built_width (pair_width g.met.I.Items.lawful c.width-a.ensures b_on c.both_widths.ensures)
