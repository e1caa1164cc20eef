use Rattle.nom.proofs.UntilGrow.{many_till_grow}
use Rattle.nom.proofs.growths.many_till_grows_by_items.Goals as goal

pub returns : goal.returns
returns g c =
    let s = g.F.Parser.state c.args._parser.now.parser in
    let t = g.G.Parser.state c.args._parser.now.end in
    many_till_grow g.I.Items.model g.F.Error.ParseError.errors (g.F.Parser.grammar s).meaning (g.G.Parser.grammar t).meaning
    (g.met.F.Parser.lawful s c.requires.item)
    (g.met.G.Parser.lawful t c.requires.end)
