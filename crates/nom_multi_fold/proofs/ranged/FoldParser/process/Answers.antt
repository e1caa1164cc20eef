use Rattle.nom_error.specs.declared.kind.ErrorKind.TheVariants as Kind
use Rattle.nom_internal.proofs.Shown.{output_err, output_ok}
use Rattle.nom_repeat.specs.Items.{items_meaning}
use Rattle.nom_multi_fold.specs.Ranges.{range_limits, IsEmpty}
use Rattle.nom_multi_fold.proofs.FoldShown.{carried_built}
use Rattle.nom_multi_fold.proofs.RangeShown.{not_so, range_shown}
use Rattle.nom_multi_fold.proofs.UnfitShown.{unfit_fails}
use Rattle.nom_multi_fold.proofs.ranged.FoldParser.process.Goals as goal

pub returns-then-is_inverted-clause-shown : goal.returns-then-is_inverted-clause-shown
returns-then-is_inverted-clause-shown g c =
    let s = c.args.self.now in
    let range = g.R.NomRange in
    unfit_fails g.F.Error.ParseError.errors Kind.Fold (IsEmpty (range.IsSpent s.range) (range.lower s.range) (range.upper s.range))
    (items_meaning g.I.Items.model g.F.Error.ParseError.errors (range_limits Kind.Fold (range.lower s.range) (range.upper s.range)) ⊥
    (g.F.Parser.grammar (g.F.Parser.state s.parser)).meaning) (c.is_inverted.ensures.0 c.if-is_inverted.true) c.failure.ensures

pub returns-in_err-rest-clause-shown : goal.returns-in_err-rest-clause-shown
returns-in_err-rest-clause-shown g c =
    let s = c.args.self.now in
    let range = g.R.NomRange in
    range_shown g.F.Error.ParseError.errors Kind.Fold (range.IsSpent s.range) (range.lower s.range)
    (range.upper s.range) ⊥ (g.F.Parser.grammar (g.F.Parser.state s.parser)).meaning c.least.ensures c.most.ensures
    (not_so _ c.if-is_inverted.false c.is_inverted.ensures.1) (output_err c.in_err-rest.ensures.shown c.from_residual.ensures)

pub returns-clause-shown : goal.returns-clause-shown
returns-clause-shown g c =
    let s = c.args.self.now in
    let range = g.R.NomRange in
    range_shown g.F.Error.ParseError.errors Kind.Fold (range.IsSpent s.range) (range.lower s.range)
    (range.upper s.range) ⊥ (g.F.Parser.grammar (g.F.Parser.state s.parser)).meaning c.least.ensures c.most.ensures
    (not_so _ c.if-is_inverted.false c.is_inverted.ensures.1)
    (output_ok c.in_ok-rest.ensures.shown
    (λ vs b. carried_built (λ k. k.value) (λ k. k.fold.now) _ _ _ _ _ _ _ c.start-first.ensures.starts vs _ _ c.carried.ensures b))
