use Rattle.nom_multi.proofs.Promised.{many0_refuses_at_empty}
use Rattle.nom_multi.proofs.promises.refuses_at_empty.Goals as goal

pub returns : goal.returns
returns g c = many0_refuses_at_empty _ g.F.Error.ParseError.errors (g.F.Parser.grammar (g.F.Parser.state c.args._parser.now.parser)).meaning
    g.met.I.Items.lawful
