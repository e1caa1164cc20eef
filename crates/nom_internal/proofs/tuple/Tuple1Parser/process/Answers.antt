use Rattle.std.proofs.Common.{ap}
use Rattle.nom_internal.specs.Prelude.{rest_of}
use Rattle.nom_internal.proofs.Shown.{err_from_residual, output_err, output_ok}
use Rattle.nom_internal.proofs.Tuples.{built_as, some_fact}
use Rattle.nom_internal.proofs.tuple.Tuple1Parser.process.Goals as goal

pub returns-in_err-rest-clause-shown : goal.returns-in_err-rest-clause-shown
returns-in_err-rest-clause-shown g c = output_err c.in_err-rest.ensures.shown c.from_residual.ensures

pub returns-clause-shown : goal.returns-clause-shown
returns-clause-shown g c =
    output_ok c.in_ok-rest.ensures.shown (λ t b. built_as _ _ _ c.built.ensures (some_fact ((g.A.Parser.grammar _).IsOutput t) _ b))

pub returns-in_err-rest-clause-side_condition : goal.returns-in_err-rest-clause-side_condition
returns-in_err-rest-clause-side_condition g c = rw (ap rest_of (err_from_residual c.from_residual.ensures)) c.in_err-rest.ensures.side_condition

pub returns-clause-side_condition : goal.returns-clause-side_condition
returns-clause-side_condition g c = c.in_ok-rest.ensures.side_condition
