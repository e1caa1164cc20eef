use Rattle.std.specs.Prelude.{◌<◌, false}
use Rattle.std.proofs.Common.{arith}
use Rattle.nom_error.specs.declared.kind.ErrorKind.TheVariants as Kind
use Rattle.nom_internal.proofs.Shown.{output_err, output_ok}
use Rattle.nom_repeat.specs.Items.{items_meaning}
use Rattle.nom_multi_fold.proofs.FoldShown.{carried_built}
use Rattle.nom_multi_fold.proofs.UnfitShown.{unfit_refuses, fit_shown}
use Rattle.nom_multi_fold.proofs.folds.FoldManyMNParser.process.Goals as goal
use Rattle.nom_repeat.specs.Bounds.{bounded_limits}

pub returns-then-self-clause-shown : goal.returns-then-self-clause-shown
returns-then-self-clause-shown g c =
    let s = c.args.self.now in
    unfit_refuses g.F.Error.ParseError.errors Kind.ManyMN (s.max < s.min)
    (items_meaning g.I.Items.model g.F.Error.ParseError.errors (bounded_limits Kind.ManyMN s.min s.max) ⊥
    (g.F.Parser.grammar (g.F.Parser.state s.parser)).meaning) c.if-self.true c.refusal.ensures

pub returns-in_err-rest-clause-shown : goal.returns-in_err-rest-clause-shown
returns-in_err-rest-clause-shown g c =
    let s = c.args.self.now in
    fit_shown g.F.Error.ParseError.errors Kind.ManyMN false (s.max < s.min)
    (items_meaning g.I.Items.model g.F.Error.ParseError.errors (bounded_limits Kind.ManyMN s.min s.max) ⊥
    (g.F.Parser.grammar (g.F.Parser.state s.parser)).meaning) (λ h. omega (arith, h, c.if-self.false))
    (output_err c.in_err-rest.ensures.shown c.from_residual.ensures)

pub returns-clause-shown : goal.returns-clause-shown
returns-clause-shown g c =
    let s = c.args.self.now in
    fit_shown g.F.Error.ParseError.errors Kind.ManyMN false (s.max < s.min)
    (items_meaning g.I.Items.model g.F.Error.ParseError.errors (bounded_limits Kind.ManyMN s.min s.max) ⊥
    (g.F.Parser.grammar (g.F.Parser.state s.parser)).meaning) (λ h. omega (arith, h, c.if-self.false))
    (output_ok c.in_ok-rest.ensures.shown
    (λ vs b. carried_built (λ k. k.value) (λ k. k.fold.now) _ _ _ _ _ _ _ c.start-first.ensures.starts vs _ _ c.carried.ensures b))
