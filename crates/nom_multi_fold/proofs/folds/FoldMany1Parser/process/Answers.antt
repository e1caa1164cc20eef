use Rattle.nom_internal.proofs.Shown.{accepts, output_err, output_ok, then_err, then_ok}
use Rattle.nom_repeat.proofs.Accumulating.{kept_ready}
use Rattle.nom_multi_fold.proofs.FoldShown.{carried_both, items_at}
use Rattle.nom_multi_fold.proofs.folds.FoldMany1Parser.process.Goals as goal
use Rattle.nom_repeat.specs.Bounds.{any_limits}
use Rattle.nom_error.specs.declared.kind.ErrorKind.TheVariants as Kind

pub returns-in_err-rest-clause-shown : goal.returns-in_err-rest-clause-shown
returns-in_err-rest-clause-shown g c = then_err g.met.I.Items.lawful c.in_err-rest.ensures.shown c.from_residual.ensures

pub any_items-requires-clause-built : goal.any_items-requires-clause-built
any_items-requires-clause-built g c =
    let first = accepts c.in_ok-rest.ensures.shown in
    kept_ready _ _ (g.F.Parser.grammar (g.F.Parser.state c.args.self.now.parser)).IsOutput _ _ _ _ first.built_is

pub returns-in_err-after-clause-shown : goal.returns-in_err-after-clause-shown
returns-in_err-after-clause-shown g c =
    let more = items_at g.F.Parser.grammar g.F.Error.ParseError.errors (any_limits Kind.Many1) c.in_ok-rest.ensures.kept
    c.in_err-after.ensures.shown in
    then_ok g.met.I.Items.lawful c.in_ok-rest.ensures.shown (λ vs b. output_err more c.from_residual-in_err-after.ensures)

pub returns-clause-shown : goal.returns-clause-shown
returns-clause-shown g c =
    let more = items_at g.F.Parser.grammar g.F.Error.ParseError.errors (any_limits Kind.Many1) c.in_ok-rest.ensures.kept
    c.in_ok-after.ensures.shown in
    then_ok g.met.I.Items.lawful c.in_ok-rest.ensures.shown
    (λ vs b. output_ok more (λ us k. carried_both (λ k. k.value) (λ k. k.fold.now) _ _ _ _ _ _ _ _ c.start-none.ensures.starts vs us b _ _
    c.carried.ensures k))
