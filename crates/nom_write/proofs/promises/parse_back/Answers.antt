use Rattle.std.proofs.Common.{true}
use Rattle.nom_write.proofs.Reading.{reads_back}
use Rattle.nom_write.proofs.promises.parse_back.Goals as goal

pub returns-clause-back : goal.returns-clause-back
returns-clause-back g c v xs rest form e f =
    let parser = c.args.parser.now in
    reads_back g.I.Items.model g.met.I.Items.lawful g.P.Output.Viewed.view (g.P.StreamParser.Pins parser) (g.P.Parser.grammar (g.P.Parser.state parser))
    (g.met.P.StreamParser.pinned parser c.requires.sound) (g.P.Writer.Follow parser) true v xs rest c.args.input c.parse.result
    ((g.met.P.Writer.reads parser c.requires.sound c.requires.can).reads v xs form true) c.known.ensures e f c.parse.ensures.shown
