use Rattle.std.specs.Prelude.{◌<◌, true}
use Rattle.std.proofs.Common.{arith, refl}
use Rattle.nom_error.specs.declared.kind.ErrorKind.TheVariants as Kind
use Rattle.nom_repeat.specs.Bounds.{bounded_limits}
use Rattle.nom_repeat.specs.Items.{items_meaning}
use Rattle.nom_multi_fold.specs.Dropped.{dropped_meaning}
use Rattle.nom_multi_fold.proofs.CountShown.{counted_shown}
use Rattle.nom_multi_fold.proofs.UnfitShown.{unfit_fails, fit_shown}
use Rattle.nom_multi_fold.proofs.counts.ManyMNCountParser.process.Goals as goal

pub returns-then-self-clause-shown : goal.returns-then-self-clause-shown
returns-then-self-clause-shown g c =
    let s = c.args.self.now in
    unfit_fails g.F.Error.ParseError.errors Kind.ManyMN (s.max < s.min)
    (items_meaning g.I.Items.model g.F.Error.ParseError.errors (bounded_limits Kind.ManyMN s.min s.max) ⊥
    (dropped_meaning (g.F.Parser.grammar (g.F.Parser.state s.item.parser)).meaning)) c.if-self.true c.failure.ensures

pub returns-clause-shown : goal.returns-clause-shown
returns-clause-shown g c =
    let s = c.args.self.now in
    let part = (g.F.Parser.grammar (g.F.Parser.state s.item.parser)).meaning in
    fit_shown g.F.Error.ParseError.errors Kind.ManyMN true (s.max < s.min)
    (items_meaning g.I.Items.model g.F.Error.ParseError.errors (bounded_limits Kind.ManyMN s.min s.max) ⊥ (dropped_meaning part))
    (λ h. omega (arith, h, c.if-self.false))
    (counted_shown g.F.Error.ParseError.errors part c.fits.ensures.fits c.built-none.ensures (bounded_limits Kind.ManyMN s.min s.max) Kind.ManyMN refl
    c.bounded_items.ensures.shown)
