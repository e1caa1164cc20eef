use Rattle.nom_calls.proofs.Staying.{items_are_one}
use Rattle.nom_calls.proofs.promises.items_are_one.Goals as goal

pub returns : goal.returns
returns g c = items_are_one _ g.met.I.Items.lawful (g.P.Parser.grammar (g.P.Parser.state c.args._parser.now)).meaning (g.met.P.Parser.lawful _ c.requires)
