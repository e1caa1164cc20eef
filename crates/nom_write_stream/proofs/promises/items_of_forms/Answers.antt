use Rattle.nom_write_stream.proofs.Piped.{items_of_forms}
use Rattle.nom_write_stream.proofs.promises.items_of_forms.Goals as goal

pub returns : goal.returns
returns g c =
    let writer = c.args._writer.now in
    let laws = c.laws_of.ensures in
    items_of_forms g.P.Output.Viewed.view (g.P.StreamParser.Pins writer) (g.P.Parser.grammar (g.P.Parser.state writer)) laws.lawful laws.steady
    laws.pinned c.requires.large c.requires.outcomes (g.P.Writer.Form writer) (g.P.Writer.Follow writer) c.requires.follows laws.reads _ _
