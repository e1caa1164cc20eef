use Rattle.nom_multi.proofs.Promised.{many0_has_few_items}
use Rattle.nom_multi.proofs.promises.has_few_items.Goals as goal

pub returns : goal.returns
returns g c = many0_has_few_items _ g.F.Error.ParseError.errors (g.F.Parser.grammar (g.F.Parser.state c.args._parser.now.parser)).meaning
