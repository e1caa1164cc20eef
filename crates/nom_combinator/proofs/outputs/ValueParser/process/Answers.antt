use Rattle.nom_internal.proofs.Shown.{err_from_residual}
use Rattle.nom_combinator.proofs.Given.{value_err, value_ok}
use Rattle.std.proofs.Common.{refl}
use Rattle.nom_internal.specs.Results.JudgedSideCondition.{Dropped}
use Rattle.nom_combinator.proofs.outputs.ValueParser.process.Goals as goal

pub returns-in_err-rest-clause-shown : goal.returns-in_err-rest-clause-shown
returns-in_err-rest-clause-shown g c =
    value_err _ _ _ _ _ (g.F.Parser.grammar _).meaning _ _ _ _ c.in_err-rest.ensures.shown (err_from_residual c.from_residual.ensures)

pub returns-in-Ok-clause-shown : goal.returns-in-Ok-clause-shown
returns-in-Ok-clause-shown g c = value_ok _ _ _ _ _ (g.F.Parser.grammar _).meaning _ _ _ _ _ c.in_ok-rest.ensures.shown c.in-Ok.ensures

pub returns-in-Err-clause-side_condition : goal.returns-in-Err-clause-side_condition
returns-in-Err-clause-side_condition g c = Dropped _ c.in_ok-rest.ensures.side_condition refl
