use Rattle.nom.proofs.ListsGrow.{many_m_n_grow}
use Rattle.nom.proofs.growths.many_m_n_grows_by_items.Goals as goal

pub returns : goal.returns
returns g c =
    let s = g.F.Parser.state c.args._parser.now.parser in
    many_m_n_grow g.I.Items.model g.F.Error.ParseError.errors (g.F.Parser.grammar s).meaning (g.met.F.Parser.lawful s c.requires) c.args._parser.now.min
    c.args._parser.now.max
