use Rattle.nom_write.proofs.Reading.{reads_back}
use Rattle.nom_write.proofs.promises.reads_back.Goals as goal

pub returns : goal.returns
returns g c streaming v xs rest i r form known e f p =
    let parser = c.args._parser.now in
    reads_back g.I.Items.model g.met.I.Items.lawful g.P.Output.Viewed.view (g.P.StreamParser.Pins parser) (g.P.Parser.grammar (g.P.Parser.state parser))
    (g.met.P.StreamParser.pinned parser c.requires.sound) (g.P.Writer.Follow parser) streaming v xs rest i r
    ((g.met.P.Writer.reads parser c.requires.sound c.requires.can).reads v xs form streaming) known e f p
