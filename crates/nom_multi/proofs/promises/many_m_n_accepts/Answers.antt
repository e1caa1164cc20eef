use Rattle.nom_multi.proofs.Accepting.{many_m_n_accepts_items}
use Rattle.nom_multi.proofs.promises.many_m_n_accepts.Goals as goal

pub returns : goal.returns
returns g c = many_m_n_accepts_items _ g.F.Error.ParseError.errors (g.F.Parser.grammar (g.F.Parser.state c.args._parser.now.parser)).meaning
    c.args._parser.now.min c.args._parser.now.max
