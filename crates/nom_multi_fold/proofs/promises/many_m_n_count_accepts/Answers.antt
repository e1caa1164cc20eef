use Rattle.nom_multi_fold.proofs.Accepting.{many_m_n_count_accepts_items}
use Rattle.nom_multi_fold.proofs.promises.many_m_n_count_accepts.Goals as goal

pub returns : goal.returns
returns g c = many_m_n_count_accepts_items _ g.F.Error.ParseError.errors (g.F.Parser.grammar (g.F.Parser.state c.args._parser.now.item.parser)).meaning
    c.args._parser.now.min c.args._parser.now.max
