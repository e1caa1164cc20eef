use Rattle.std.proofs.Common.{subst}
use Rattle.nom_internal.specs.Prelude.{IsSuffixOf}
use Rattle.nom_bits.proofs.Positions.{to_whole_byte, to_end}
use Rattle.nom_bits.proofs.bridge.whole_byte.Goals as goal

pub returns-in-Some : goal.returns-in-Some
returns-in-Some g c = to_whole_byte g.I.Items.model g.met.I.Items.lawful g.met.I.Items.values c.args.input.0 c.args.input.1 c.in-Some.rest
    c.known.ensures c.in-Some.ensures

pub returns-in-None : goal.returns-in-None
returns-in-None g c =
    let w = g.I.Items.model in
    to_end w g.met.I.Items.lawful g.met.I.Items.values c.args.input.0 c.args.input.1 c.take_from.result c.known.ensures c.in-None.ensures
    (subst (λ n. IsSuffixOf w c.args.input.0 n c.take_from.result) c.input_len.ensures c.take_from.ensures)
