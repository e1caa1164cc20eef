use Rattle.nom_error.specs.declared.kind.ErrorKind.TheVariants as Kind
use Rattle.nom.proofs.ListsGrow.{range_grow}
use Rattle.nom.proofs.growths.many_grows_by_items.Goals as goal

pub returns : goal.returns
returns g c =
    let s = g.F.Parser.state c.args._parser.now.parser in
    let r = c.args._parser.now.range in
    range_grow g.I.Items.model g.F.Error.ParseError.errors (g.F.Parser.grammar s).meaning (g.met.F.Parser.lawful s c.requires) Kind.Many
    (g.R.NomRange.IsSpent r)
    (g.R.NomRange.lower r) (g.R.NomRange.upper r)
