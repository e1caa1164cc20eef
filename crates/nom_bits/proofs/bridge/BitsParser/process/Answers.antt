use Rattle.nom_bits.proofs.Bridged.{bits_ok, bits_err}
use Rattle.std.proofs.Common.{refl}
use Rattle.nom_bits.specs.Bridges.BitsSideCondition.{NoBits, SomeBits}
use Rattle.nom_bits.proofs.bridge.BitsParser.process.Goals as goal

pub returns-in-Ok-clause-shown : goal.returns-in-Ok-clause-shown
returns-in-Ok-clause-shown g c =
    bits_ok g.I.Items.model _ g.P.Error.ErrorConvert.converts (g.P.Parser.grammar (g.P.Parser.state c.args.self.now.parser)).meaning _ c.args.input
    (g.met.I.Items.values c.args.input c.known.ensures) g.met.I.Items.lawful g.met.I.Items.values c.known.ensures _ _ _ c.in-Ok.ensures.shown
    c.whole_byte.ensures

pub returns-in-Err-clause-shown : goal.returns-in-Err-clause-shown
returns-in-Err-clause-shown g c =
    bits_err g.I.Items.model _ g.P.Error.ErrorConvert.converts (g.P.Parser.grammar (g.P.Parser.state c.args.self.now.parser)).meaning _ c.args.input
    (g.met.I.Items.values c.args.input c.known.ensures) _ _ c.in-Err.ensures.shown c.in_bytes.ensures

pub returns-in-Ok-clause-side_condition : goal.returns-in-Ok-clause-side_condition
returns-in-Ok-clause-side_condition g c = SomeBits _ _ c.in-Ok.ensures.side_condition c.whole_byte.ensures refl

pub returns-in-Err-clause-side_condition : goal.returns-in-Err-clause-side_condition
returns-in-Err-clause-side_condition g c = NoBits c.in-Err.ensures.side_condition refl
