use Rattle.std.proofs.Common.{ap, refl}
use Rattle.nom_internal.specs.Prelude.{rest_of}
use Rattle.nom_internal.specs.Results.MadeSideCondition.{Made}
use Rattle.nom_internal.specs.Results.ThenSideCondition.{Stopped, Both}
use Rattle.nom_internal.proofs.Shown.{err_from_residual, then_err, then_ok}
use Rattle.nom_internal.proofs.Owed.{gives_at}
use Rattle.nom_internal.proofs.Given.{given_shown}
use Rattle.nom_internal.proofs.flat_map.FlatMapParser.process.Goals as goal

pub returns-in_err-rest-clause-shown : goal.returns-in_err-rest-clause-shown
returns-in_err-rest-clause-shown g c = then_err g.met.I.Items.lawful c.in_err-rest.ensures.shown c.from_residual.ensures

pub returns-clause-shown : goal.returns-clause-shown
returns-clause-shown g c = then_ok g.met.I.Items.lawful c.in_ok-rest.ensures.shown
    (λ u b. given_shown _ (g.F.Parser.grammar (g.F.Parser.state c.args.self.now.first)).IsOutput _ (λ s. (g.H.Parser.grammar s).IsOutput)
    (λ s. (g.H.Parser.grammar s).meaning) _ _ u _ _
    c.make-next.result _ b c.in-Some.is c.make-next.ensures c.process-2.ensures.shown)

pub returns-in_err-rest-clause-side_condition : goal.returns-in_err-rest-clause-side_condition
returns-in_err-rest-clause-side_condition g c = Stopped c.in_err-rest.ensures.side_condition (ap rest_of (err_from_residual c.from_residual.ensures))

pub returns-clause-side_condition : goal.returns-clause-side_condition
returns-clause-side_condition g c =
    let given = gives_at (g.F.Parser.grammar (g.F.Parser.state c.args.self.now.first)) c.in_ok-rest.ensures.shown refl c.in-Some.is in
    Both _ c.in_ok-rest.ensures.side_condition (Made _ c.make-next.result _ given c.make-next.ensures c.process-2.ensures.side_condition)
