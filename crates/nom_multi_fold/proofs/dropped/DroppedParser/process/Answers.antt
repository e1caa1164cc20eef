use Rattle.nom_multi_fold.proofs.DroppedShown.{dropped_err, dropped_ok}
use Rattle.nom_multi_fold.proofs.dropped.DroppedParser.process.Goals as goal

pub returns-in_err-rest-clause-shown : goal.returns-in_err-rest-clause-shown
returns-in_err-rest-clause-shown g c =
    dropped_err (g.F.Parser.grammar (g.F.Parser.state c.args.self.now.parser)).IsOutput
    (g.F.Parser.grammar (g.F.Parser.state c.args.self.now.parser)).meaning c.in_err-rest.ensures.shown c.from_residual.ensures

pub returns-clause-shown : goal.returns-clause-shown
returns-clause-shown g c = dropped_ok (g.F.Parser.grammar (g.F.Parser.state c.args.self.now.parser)).IsOutput
    (g.F.Parser.grammar (g.F.Parser.state c.args.self.now.parser)).meaning c.in_ok-rest.ensures.shown c.built.ensures
