use Rattle.nom_internal.proofs.Shown.{err_from_residual}
use Rattle.nom_combinator.proofs.Conditional.{cond_err, cond_ok, cond_none}
use Rattle.nom_combinator.proofs.condition.CondParser.process.Goals as goal

pub returns-in_err-rest-clause-shown : goal.returns-in_err-rest-clause-shown
returns-in_err-rest-clause-shown g c =
    cond_err _ (g.F.Parser.grammar (g.F.Parser.state c.args.self.now.parser)) _ _ _ c.if-self.true _ _ c.in_err-rest.ensures.shown
    (err_from_residual c.from_residual.ensures)

pub returns-in_ok-rest-clause-shown : goal.returns-in_ok-rest-clause-shown
returns-in_ok-rest-clause-shown g c =
    cond_ok _ (g.F.Parser.grammar (g.F.Parser.state c.args.self.now.parser)) _ _ _ c.if-self.true _ _ _ c.in_ok-rest.ensures.shown c.built.ensures

pub returns-else-self-clause-shown : goal.returns-else-self-clause-shown
returns-else-self-clause-shown g c =
    cond_none _ (g.F.Parser.grammar (g.F.Parser.state c.args.self.now.parser)) _ _ g.met.I.Items.lawful c.known.ensures _ c.if-self.false _
    c.built-else-self.ensures
