use Rattle.std.proofs.Common.{ap}
use Rattle.nom_internal.specs.Prelude.{rest_of}
use Rattle.nom_internal.specs.Results.ThenSideCondition.{Stopped, Both}
use Rattle.nom_internal.proofs.Shown.{err_from_residual, output_err, output_ok, then_err, then_ok}
use Rattle.nom_internal.proofs.Tuples.{built_as, some_fact}
use Rattle.nom_internal.proofs.tuple.Tuple4Parser.process.Goals as goal

pub returns-in_err-rest-clause-shown : goal.returns-in_err-rest-clause-shown
returns-in_err-rest-clause-shown g c =
    let l = g.met.I.Items.lawful in
    then_err l c.in_err-rest.ensures.shown c.from_residual.ensures

pub returns-in_err-rest-2-clause-shown : goal.returns-in_err-rest-2-clause-shown
returns-in_err-rest-2-clause-shown g c =
    let l = g.met.I.Items.lawful in
    then_ok l c.in_ok-rest.ensures.shown (λ _ _. then_err l c.in_err-rest-2.ensures.shown c.from_residual-in_err-rest-2.ensures)

pub returns-in_err-rest-3-clause-shown : goal.returns-in_err-rest-3-clause-shown
returns-in_err-rest-3-clause-shown g c =
    let l = g.met.I.Items.lawful in
    then_ok l c.in_ok-rest.ensures.shown (λ _ _. then_ok l c.in_ok-rest-2.ensures.shown (λ _ _. then_err l c.in_err-rest-3.ensures.shown
    c.from_residual-in_err-rest-3.ensures))

pub returns-in_err-rest-4-clause-shown : goal.returns-in_err-rest-4-clause-shown
returns-in_err-rest-4-clause-shown g c =
    let l = g.met.I.Items.lawful in
    then_ok l c.in_ok-rest.ensures.shown (λ _ _. then_ok l c.in_ok-rest-2.ensures.shown (λ _ _. then_ok l c.in_ok-rest-3.ensures.shown (λ _ _.
    output_err c.in_err-rest-4.ensures.shown c.from_residual-in_err-rest-4.ensures)))

pub returns-clause-shown : goal.returns-clause-shown
returns-clause-shown g c =
    let l = g.met.I.Items.lawful in
    then_ok l c.in_ok-rest.ensures.shown (λ t1 b1. then_ok l c.in_ok-rest-2.ensures.shown (λ t2 b2. then_ok l c.in_ok-rest-3.ensures.shown (λ t3 b3.
    output_ok c.in_ok-rest-4.ensures.shown (λ t4 b4. built_as _ _ _ c.built.ensures (
      some_fact ((g.A.Parser.grammar _).IsOutput t1) _ b1,
      (
        some_fact
            ((g.B.Parser.grammar _).IsOutput t2) _ b2,
        (
          some_fact ((g.C.Parser.grammar _).IsOutput t3) _ b3,
          some_fact ((g.D.Parser.grammar _).IsOutput t4) _
              b4,
        ),
      ),
    )))))

pub returns-in_err-rest-clause-side_condition : goal.returns-in_err-rest-clause-side_condition
returns-in_err-rest-clause-side_condition g c = Stopped c.in_err-rest.ensures.side_condition (ap rest_of (err_from_residual c.from_residual.ensures))

pub returns-in_err-rest-2-clause-side_condition : goal.returns-in_err-rest-2-clause-side_condition
returns-in_err-rest-2-clause-side_condition g c = Both _ c.in_ok-rest.ensures.side_condition (Stopped c.in_err-rest-2.ensures.side_condition (ap rest_of
    (err_from_residual c.from_residual-in_err-rest-2.ensures)))

pub returns-in_err-rest-3-clause-side_condition : goal.returns-in_err-rest-3-clause-side_condition
returns-in_err-rest-3-clause-side_condition g c = Both _ c.in_ok-rest.ensures.side_condition (Both _ c.in_ok-rest-2.ensures.side_condition (Stopped
    c.in_err-rest-3.ensures.side_condition (ap rest_of (err_from_residual c.from_residual-in_err-rest-3.ensures))))

pub returns-in_err-rest-4-clause-side_condition : goal.returns-in_err-rest-4-clause-side_condition
returns-in_err-rest-4-clause-side_condition g c = Both _ c.in_ok-rest.ensures.side_condition (Both _ c.in_ok-rest-2.ensures.side_condition (Both _
    c.in_ok-rest-3.ensures.side_condition (rw (ap rest_of (err_from_residual c.from_residual-in_err-rest-4.ensures)) c.in_err-rest-4.ensures.side_condition)))

pub returns-clause-side_condition : goal.returns-clause-side_condition
returns-clause-side_condition g c = Both _ c.in_ok-rest.ensures.side_condition (Both _ c.in_ok-rest-2.ensures.side_condition (Both _
    c.in_ok-rest-3.ensures.side_condition
    c.in_ok-rest-4.ensures.side_condition))
