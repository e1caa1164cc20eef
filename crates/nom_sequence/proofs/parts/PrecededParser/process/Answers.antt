use Rattle.std.proofs.Common.{ap}
use Rattle.nom_internal.specs.Prelude.{rest_of}
use Rattle.nom_internal.specs.Results.ThenSideCondition.{Stopped, Both}
use Rattle.nom_internal.proofs.Shown.{err_from_residual, then_err, then_ok}
use Rattle.nom_sequence.proofs.parts.PrecededParser.process.Goals as goal

pub returns-in_err-rest-clause-shown : goal.returns-in_err-rest-clause-shown
returns-in_err-rest-clause-shown g c = then_err g.met.I.Items.lawful c.in_err-rest.ensures.shown c.from_residual.ensures

pub returns-clause-shown : goal.returns-clause-shown
returns-clause-shown g c = then_ok g.met.I.Items.lawful c.in_ok-rest.ensures.shown (λ u b. c.process-2.ensures.shown)

pub returns-in_err-rest-clause-side_condition : goal.returns-in_err-rest-clause-side_condition
returns-in_err-rest-clause-side_condition g c = Stopped c.in_err-rest.ensures.side_condition (ap rest_of (err_from_residual c.from_residual.ensures))

pub returns-clause-side_condition : goal.returns-clause-side_condition
returns-clause-side_condition g c = Both _ c.in_ok-rest.ensures.side_condition c.process-2.ensures.side_condition
