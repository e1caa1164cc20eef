use Rattle.nom_internal.proofs.Shown.{err_from_residual}
use Rattle.nom_multi.proofs.TillShown.{end_stands, end_stops, item_stands, item_stops}
use Rattle.nom_multi.proofs.till.end_or_next.Goals as goal

pub returns-in-Ok-clause-shown : goal.returns-in-Ok-clause-shown
returns-in-Ok-clause-shown g c =
    end_stands _ (g.G.Parser.grammar (g.G.Parser.state c.args.end.now)).IsOutput (g.F.Parser.grammar (g.F.Parser.state c.args.parser.now)).IsOutput
    (g.G.Parser.grammar (g.G.Parser.state c.args.end.now)).meaning (g.F.Parser.grammar (g.F.Parser.state c.args.parser.now)).meaning
    _ _ _ _ _ _ c.in-Ok.ensures.shown

pub returns-in_err-rest-in-Err-Error-clause-shown : goal.returns-in_err-rest-in-Err-Error-clause-shown
returns-in_err-rest-in-Err-Error-clause-shown g c =
    item_stops _ (g.G.Parser.grammar (g.G.Parser.state c.args.end.now)).IsOutput (g.F.Parser.grammar (g.F.Parser.state c.args.parser.now)).IsOutput
    (g.G.Parser.grammar (g.G.Parser.state c.args.end.now)).meaning
    (g.F.Parser.grammar (g.F.Parser.state c.args.parser.now)).meaning _ _ _ _ _ _ c.in-Err-Error.field-0-is c.in-Err-Error.ensures.shown _ _
    c.in_err-rest-in-Err-Error.ensures.shown (err_from_residual c.from_residual.ensures)

pub returns-in-Err-Error-clause-shown : goal.returns-in-Err-Error-clause-shown
returns-in-Err-Error-clause-shown g c =
    item_stands _ (g.G.Parser.grammar (g.G.Parser.state c.args.end.now)).IsOutput (g.F.Parser.grammar (g.F.Parser.state c.args.parser.now)).IsOutput
    (g.G.Parser.grammar (g.G.Parser.state c.args.end.now)).meaning
    (g.F.Parser.grammar (g.F.Parser.state c.args.parser.now)).meaning _ _ _ _ _ _ c.in-Err-Error.field-0-is c.in-Err-Error.ensures.shown _ _
    c.in_ok-rest-in-Err-Error.ensures.shown

pub returns-in-Err-Failure-clause-shown : goal.returns-in-Err-Failure-clause-shown
returns-in-Err-Failure-clause-shown g c =
    end_stops _ (g.G.Parser.grammar (g.G.Parser.state c.args.end.now)).IsOutput (g.F.Parser.grammar (g.F.Parser.state c.args.parser.now)).IsOutput
    (g.G.Parser.grammar (g.G.Parser.state c.args.end.now)).meaning
    (g.F.Parser.grammar (g.F.Parser.state c.args.parser.now)).meaning _ _ _ _ _ _ c.in-Err-Failure.field-0-is (λ x e. cc (e)) c.in-Err-Failure.ensures.shown

pub returns-in-Err-Incomplete-clause-shown : goal.returns-in-Err-Incomplete-clause-shown
returns-in-Err-Incomplete-clause-shown g c =
    end_stops _ (g.G.Parser.grammar (g.G.Parser.state c.args.end.now)).IsOutput (g.F.Parser.grammar (g.F.Parser.state c.args.parser.now)).IsOutput
    (g.G.Parser.grammar (g.G.Parser.state c.args.end.now)).meaning
    (g.F.Parser.grammar (g.F.Parser.state c.args.parser.now)).meaning _ _ _ _ _ _ c.in-Err-Incomplete.field-0-is (λ x e. cc (e))
    c.in-Err-Incomplete.ensures.shown

pub returns-clause-shown : goal.returns-clause-shown
returns-clause-shown g c = end_stops _ (g.G.Parser.grammar (g.G.Parser.state c.args.end.now)).IsOutput
    (g.F.Parser.grammar (g.F.Parser.state c.args.parser.now)).IsOutput (g.G.Parser.grammar (g.G.Parser.state c.args.end.now)).meaning
    (g.F.Parser.grammar (g.F.Parser.state c.args.parser.now)).meaning _ _ _ _ _ _ c.in-Err-OutOfMemory.field-0-is (λ x e. cc (e))
    c.in-Err-OutOfMemory.ensures.shown
