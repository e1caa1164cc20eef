use Rattle.nom_bits.proofs.Bridged.{bytes_ok, bytes_err}
use Rattle.std.proofs.Common.{refl}
use Rattle.nom_bits.specs.Bridges.BytesSideCondition.{NoBytes, SomeBytes}
use Rattle.nom_bits.proofs.bridge.BytesParserTuple2Usize.process.Goals as goal

pub returns-in-Ok-clause-shown : goal.returns-in-Ok-clause-shown
returns-in-Ok-clause-shown g c =
    bytes_ok g.I.Items.model _ g.E.ParseError.errors g.P.Error.ErrorConvert.converts (g.P.Parser.grammar (g.P.Parser.state c.args.self.now.parser)).meaning _
    c.args.input _ c.whole_byte.ensures g.met.I.Items.lawful g.met.I.Items.values _ _ c.in-Ok.ensures.shown

pub returns-in-Err-clause-shown : goal.returns-in-Err-clause-shown
returns-in-Err-clause-shown g c =
    bytes_err g.I.Items.model _ g.E.ParseError.errors g.P.Error.ErrorConvert.converts (g.P.Parser.grammar (g.P.Parser.state c.args.self.now.parser)).meaning _
    c.args.input _ c.whole_byte.ensures _ _ c.in-Err.ensures.shown c.in_bits.ensures

pub returns-in-Ok-clause-side_condition : goal.returns-in-Ok-clause-side_condition
returns-in-Ok-clause-side_condition g c = SomeBytes _ _ c.whole_byte.ensures c.in-Ok.ensures.side_condition refl

pub returns-in-Err-clause-side_condition : goal.returns-in-Err-clause-side_condition
returns-in-Err-clause-side_condition g c = NoBytes _ c.whole_byte.ensures c.in-Err.ensures.side_condition refl
