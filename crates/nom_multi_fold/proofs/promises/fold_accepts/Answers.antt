use Rattle.nom_error.specs.declared.kind.ErrorKind.TheVariants as Kind
use Rattle.nom_multi_fold.proofs.Accepting.{range_accepts_items}
use Rattle.nom_multi_fold.proofs.promises.fold_accepts.Goals as goal

pub returns : goal.returns
returns g c = range_accepts_items _ g.F.Error.ParseError.errors (g.F.Parser.grammar (g.F.Parser.state c.args._parser.now.parser)).meaning Kind.Fold
    (g.R.NomRange.IsSpent c.args._parser.now.range) (g.R.NomRange.lower c.args._parser.now.range) (g.R.NomRange.upper c.args._parser.now.range) ⊥
