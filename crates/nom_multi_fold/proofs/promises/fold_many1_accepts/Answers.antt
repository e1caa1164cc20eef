use Rattle.nom_multi_fold.proofs.Accepting.{fold_many1_accepts_more}
use Rattle.nom_multi_fold.proofs.promises.fold_many1_accepts.Goals as goal

pub returns : goal.returns
returns g c = fold_many1_accepts_more _ g.F.Error.ParseError.errors (g.F.Parser.grammar (g.F.Parser.state c.args._parser.now.parser)).meaning (Unit {0})
