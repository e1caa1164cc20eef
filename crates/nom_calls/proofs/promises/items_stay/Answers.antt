use Rattle.nom_calls.proofs.Staying.{items_stay, outputs_stay}
use Rattle.nom_calls.proofs.promises.items_stay.Goals as goal

pub returns-clause-items : goal.returns-clause-items
returns-clause-items g c = items_stay _ g.met.I.Items.lawful (g.P.Parser.grammar (g.P.Parser.state c.args._parser.now)).meaning
    (g.met.P.StreamParser.steady _ c.requires)

pub returns-clause-outputs : goal.returns-clause-outputs
returns-clause-outputs g c =
    let p = g.P.Parser.state c.args._parser.now in
    outputs_stay _ g.met.I.Items.lawful (g.P.Parser.grammar p).meaning g.P.Output.Viewed.view (g.P.StreamParser.Pins c.args._parser.now)
    (g.P.Parser.grammar p).IsOutput
    (g.met.P.StreamParser.steady _ c.requires) (g.met.P.StreamParser.pinned _ c.requires)
