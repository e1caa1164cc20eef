use Rattle.std.proofs.Common.{arith}
use Rattle.nom_bits.proofs.Positions.{past_all, splits, few_after}
use Rattle.nom_bits.proofs.field.next_field.Goals as goal

pub returns-in-Some-following : goal.returns-in-Some-following
returns-in-Some-following g c =
    splits g.I.Items.model g.met.I.Items.lawful g.met.I.Items.values c.args.input.0 c.args.input.1 c.args.count c.in-Some.bytes c.in-Some-following.rest
    (omega (arith, c.if-count-eq0.false)) c.known.ensures c.in-Some.ensures c.in-Some-following.ensures.0 c.in-Some-following.ensures.1

pub returns-in-None-following : goal.returns-in-None-following
returns-in-None-following g c =
    few_after g.I.Items.model g.met.I.Items.lawful g.met.I.Items.values c.args.input.0 c.args.input.1 c.args.count c.in-Some.bytes c.known.ensures
    c.in-Some.ensures c.in-None-following.ensures

pub returns-in-None : goal.returns-in-None
returns-in-None g c = past_all g.I.Items.model g.met.I.Items.lawful c.args.input.0 c.args.input.1 c.args.count (omega (arith, c.if-count-eq0.false))
    c.in-None.ensures
