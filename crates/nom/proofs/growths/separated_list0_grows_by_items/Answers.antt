use Rattle.nom.proofs.ListsGrow.{separated0_grow}
use Rattle.nom.proofs.growths.separated_list0_grows_by_items.Goals as goal

pub returns : goal.returns
returns g c =
    let s = g.G.Parser.state c.args._parser.now.next.first in
    let t = g.F.Parser.state c.args._parser.now.next.second in
    separated0_grow g.I.Items.model g.met.I.Items.lawful g.F.Error.ParseError.errors (g.G.Parser.grammar s).meaning (g.F.Parser.grammar t).meaning
    (g.met.G.Parser.lawful s c.requires.separator) (g.met.F.Parser.lawful t c.requires.item)
