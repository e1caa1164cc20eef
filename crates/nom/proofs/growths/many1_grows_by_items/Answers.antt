use Rattle.nom.proofs.ListsGrow.{many1_grow}
use Rattle.nom.proofs.growths.many1_grows_by_items.Goals as goal

pub returns : goal.returns
returns g c =
    let s = g.F.Parser.state c.args._parser.now.parser in
    many1_grow g.I.Items.model g.F.Error.ParseError.errors (g.F.Parser.grammar s).meaning (g.met.F.Parser.lawful s c.requires)
