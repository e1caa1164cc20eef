use Rattle.std.proofs.Common.{refl}
use Rattle.nom_error.specs.declared.kind.ErrorKind.TheVariants as Kind
use Rattle.nom_repeat.specs.Bounds.{any_limits}
use Rattle.nom_multi_fold.proofs.CountShown.{counted_shown}
use Rattle.nom_multi_fold.proofs.counts.Many0CountParser.process.Goals as goal

pub returns-clause-shown : goal.returns-clause-shown
returns-clause-shown g c = counted_shown g.F.Error.ParseError.errors (g.F.Parser.grammar (g.F.Parser.state c.args.self.now.item.parser)).meaning
    c.fits.ensures.fits c.built-none.ensures (any_limits Kind.Many0Count) Kind.Many0Count refl c.any_items.ensures.shown
