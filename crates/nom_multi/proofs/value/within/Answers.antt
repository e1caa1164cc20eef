use Rattle.nom_internal.specs.Prelude.{IsModelledBy}
use Rattle.nom_internal.proofs.Shown.{accepts, err_from_residual, then_err, then_ok}
use Rattle.nom_internal.proofs.Bounded.{bound_of, bounded_err, bounded_ok}
use Rattle.nom_multi.specs.Values.{settled_meaning}
use Rattle.nom_multi.proofs.value.within.Goals as goal

pub returns-in_err-rest-clause-shown : goal.returns-in_err-rest-clause-shown
returns-in_err-rest-clause-shown g c = then_err g.met.I.Items.lawful c.in_err-rest.ensures c.from_residual.ensures

pub returns-in_err-output-clause-shown : goal.returns-in_err-output-clause-shown
returns-in_err-output-clause-shown g c =
    then_ok g.met.I.Items.lawful c.in_ok-rest.ensures
    (λ u b. bounded_err _ _ _ _ (settled_meaning g.G.Error.ParseError.errors (g.G.Parser.grammar (g.G.Parser.state c.args.parser.now)).meaning) _ _ u _
    (bound_of _ (IsModelledBy g.I.Items.model) u _ _ b c.in-Some.is c.known.ensures) _ _ (err_from_residual c.from_residual-in_err-output.ensures)
    c.in_err-output.ensures.shown)

pub returns-clause-shown : goal.returns-clause-shown
returns-clause-shown g c = then_ok g.met.I.Items.lawful c.in_ok-rest.ensures
    (λ u b. bounded_ok _ _ _ _ (settled_meaning g.G.Error.ParseError.errors (g.G.Parser.grammar (g.G.Parser.state c.args.parser.now)).meaning) _ _ u _
    (bound_of _ (IsModelledBy g.I.Items.model) u _ _ b c.in-Some.is c.known.ensures) g.met.I.Items.lawful (accepts c.in_ok-rest.ensures).rest_is.known _ _
    c.in_ok-output.ensures.shown)
