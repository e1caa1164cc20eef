use Rattle.nom_multi.specs.Lengths.{HasSize}
use Rattle.nom.proofs.ListsGrow.{length_count_grow}
use Rattle.nom.proofs.growths.length_count_grows_by_items.Goals as goal

pub returns : goal.returns
returns g c =
    let s = g.F.Parser.state c.args._parser.now.length in
    let t = g.G.Parser.state c.args._parser.now.parser in
    length_count_grow g.I.Items.model g.F.Error.ParseError.errors (g.G.Parser.grammar t).meaning (g.met.G.Parser.lawful t c.requires.item)
    (HasSize (g.F.Parser.grammar s).IsOutput g.F.Output.ToUsize.size) (g.F.Parser.grammar s).meaning (g.met.F.Parser.lawful s c.requires.length)
