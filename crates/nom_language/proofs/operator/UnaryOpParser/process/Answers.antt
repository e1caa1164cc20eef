use Rattle.std.proofs.Common.{◌≡◌, subst, sym}
use Rattle.nom_internal.proofs.Shown.{output_err, output_ok}
use Rattle.nom_language.proofs.LeftShown.{given_built}
use Rattle.nom_language.proofs.operator.UnaryOpParser.process.Goals as goal

pub returns-in_err-rest-clause-shown : goal.returns-in_err-rest-clause-shown
returns-in_err-rest-clause-shown g c = output_err c.in_err-rest.ensures.shown c.from_residual.ensures

pub returns-clause-shown : goal.returns-clause-shown
returns-clause-shown g c =
    let is_output = (g.F.Parser.grammar (g.F.Parser.state c.args.self.now.parser)).IsOutput in
    output_ok c.in_ok-rest.ensures.shown (λ t b. given_built g.OM.Output.Mode.BUILDS (is_output t)
    (λ v u. (u.value ≡ v) × (u.precedence ≡ c.args.self.now.precedence)) _ _ _ (λ v u p q. (subst (is_output t) (sym q.0) p, q.1)) c.unary.ensures b)
