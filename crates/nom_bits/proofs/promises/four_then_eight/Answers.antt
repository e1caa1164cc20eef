use Rattle.std.proofs.Common.{arith}
use Rattle.nom_bits.specs.BitRests.{then_stands}
use Rattle.nom_bits.proofs.promises.four_then_eight.Goals as goal

pub returns : goal.returns
returns g c = then_stands g.I.Items.model g.met.I.Items.lawful c.args.input _ _ 12 _ (omega (arith, c.take.ensures, c.take-2.ensures))
    c.parse.ensures.side_condition
