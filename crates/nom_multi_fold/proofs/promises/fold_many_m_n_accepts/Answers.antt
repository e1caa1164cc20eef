use Rattle.nom_multi_fold.proofs.Accepting.{fold_many_m_n_accepts_items}
use Rattle.nom_multi_fold.proofs.promises.fold_many_m_n_accepts.Goals as goal

pub returns : goal.returns
returns g c = fold_many_m_n_accepts_items _ g.F.Error.ParseError.errors (g.F.Parser.grammar (g.F.Parser.state c.args._parser.now.parser)).meaning
    c.args._parser.now.min c.args._parser.now.max (Unit {0})
