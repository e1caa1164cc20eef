use Rattle.nom_multi_fold.proofs.Accepting.{many1_count_accepts_more}
use Rattle.nom_multi_fold.proofs.promises.many1_count_accepts.Goals as goal

pub returns : goal.returns
returns g c = many1_count_accepts_more _ g.F.Error.ParseError.errors (g.F.Parser.grammar (g.F.Parser.state c.args._parser.now.item.parser)).meaning
