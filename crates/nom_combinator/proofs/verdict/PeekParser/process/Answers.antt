use Rattle.nom_combinator.proofs.Judged.{peek_ok, peek_err}
use Rattle.nom_internal.proofs.Shown.{err_from_residual}
use Rattle.std.proofs.Common.{refl}
use Rattle.nom_internal.specs.Results.ThenSideCondition.{Both}
use Rattle.nom_combinator.proofs.verdict.PeekParser.process.Goals as goal

pub returns-in_err-output-clause-shown : goal.returns-in_err-output-clause-shown
returns-in_err-output-clause-shown g c =
    peek_err _ g.met.I.Items.lawful _ (g.F.Parser.grammar (g.F.Parser.state c.args.self.now.parser)).meaning _ _ _ _ c.in_err-output.ensures.shown
    (err_from_residual c.from_residual.ensures)

pub returns-clause-shown : goal.returns-clause-shown
returns-clause-shown g c = peek_ok _ g.met.I.Items.lawful _ (g.F.Parser.grammar (g.F.Parser.state c.args.self.now.parser)).meaning _ _ c.known.ensures _ _
    c.in_ok-output.ensures.shown

pub returns-clause-side_condition : goal.returns-clause-side_condition
returns-clause-side_condition g c = Both _ c.in_ok-output.ensures.side_condition refl
