use Rattle.std.proofs.Common.{arith}
use Rattle.nom_traits.proofs.BitCuts.{bits_len}
use Rattle.nom_traits.proofs.bits.bit_count.Goals as goal

pub returns : goal.returns
returns g c = omega (arith, bits_len g.I.Items.model c.args.input, c.item_count.ensures, c.saturating_sub.ensures)
