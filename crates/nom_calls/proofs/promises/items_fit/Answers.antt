use Rattle.nom_calls.proofs.Staying.{items_fit}
use Rattle.nom_calls.proofs.promises.items_fit.Goals as goal

pub returns : goal.returns
returns g c = items_fit _ (g.P.Parser.grammar (g.P.Parser.state c.args._parser.now)).meaning
