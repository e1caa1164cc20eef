use Rattle.std.proofs.Common.{ap, refl}
use Rattle.nom_internal.specs.Prelude.{rest_of}
use Rattle.nom_internal.specs.Results.BoundSideCondition.{Unbound, Bound}
use Rattle.nom_internal.proofs.Owed.{gives_at}
use Rattle.nom_internal.proofs.Shown.{accepts, err_from_residual, then_err, then_ok}
use Rattle.nom_internal.proofs.Bounded.{bound_of, bounded_err, bounded_ok}
use Rattle.nom_internal.proofs.and_then.AndThenParser.process.Goals as goal

pub returns-in_err-rest-clause-shown : goal.returns-in_err-rest-clause-shown
returns-in_err-rest-clause-shown g c = then_err g.met.I.Items.lawful c.in_err-rest.ensures.shown c.from_residual.ensures

pub returns-in_err-output-clause-shown : goal.returns-in_err-output-clause-shown
returns-in_err-output-clause-shown g c =
    then_ok g.met.I.Items.lawful c.in_ok-rest.ensures.shown
    (λ u b. bounded_err _ _ _ _ (g.G.Parser.grammar (g.G.Parser.state c.args.self.now.second)).meaning _ _ u _
    (bound_of _ (g.F.Parser.grammar (g.F.Parser.state c.args.self.now.first)).IsOutput u _ _ b c.in-Some.is c.known.ensures) _ _
    (err_from_residual c.from_residual-in_err-output.ensures) c.in_err-output.ensures.shown)

pub returns-clause-shown : goal.returns-clause-shown
returns-clause-shown g c = then_ok g.met.I.Items.lawful c.in_ok-rest.ensures.shown
    (λ u b. bounded_ok _ _ _ _ (g.G.Parser.grammar (g.G.Parser.state c.args.self.now.second)).meaning _ _ u _
    (bound_of _ (g.F.Parser.grammar (g.F.Parser.state c.args.self.now.first)).IsOutput u _ _ b c.in-Some.is c.known.ensures) g.met.I.Items.lawful
    (accepts c.in_ok-rest.ensures.shown).rest_is.known _ _ c.in_ok-output.ensures.shown)

pub returns-in_err-rest-clause-side_condition : goal.returns-in_err-rest-clause-side_condition
returns-in_err-rest-clause-side_condition g c = Unbound c.in_err-rest.ensures.side_condition (ap rest_of (err_from_residual c.from_residual.ensures))

pub returns-in_err-output-clause-side_condition : goal.returns-in_err-output-clause-side_condition
returns-in_err-output-clause-side_condition g c =
    let given = gives_at (g.F.Parser.grammar (g.F.Parser.state c.args.self.now.first)) c.in_ok-rest.ensures.shown refl c.in-Some.is in
    Bound _ _ _ c.in_ok-rest.ensures.side_condition given c.in_err-output.ensures.side_condition (ap rest_of (err_from_residual
    c.from_residual-in_err-output.ensures))

pub returns-clause-side_condition : goal.returns-clause-side_condition
returns-clause-side_condition g c =
    let given = gives_at (g.F.Parser.grammar (g.F.Parser.state c.args.self.now.first)) c.in_ok-rest.ensures.shown refl c.in-Some.is in
    Bound _ _ _ c.in_ok-rest.ensures.side_condition given c.in_ok-output.ensures.side_condition refl
