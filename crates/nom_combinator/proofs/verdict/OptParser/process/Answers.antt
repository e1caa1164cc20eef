use Rattle.nom_combinator.proofs.Judged.{opt_ok, opt_refused, opt_passes}
use Rattle.nom_combinator.proofs.verdict.OptParser.process.Goals as goal

pub returns-in-Ok-clause-shown : goal.returns-in-Ok-clause-shown
returns-in-Ok-clause-shown g c =
    opt_ok _ g.met.I.Items.lawful _ (g.F.Parser.grammar (g.F.Parser.state c.args.self.now.parser)).meaning _ _ _ _ _ c.in-Ok.ensures.shown c.built.ensures

pub returns-in-Err-Error-clause-shown : goal.returns-in-Err-Error-clause-shown
returns-in-Err-Error-clause-shown g c =
    opt_refused _ g.met.I.Items.lawful _ (g.F.Parser.grammar (g.F.Parser.state c.args.self.now.parser)).meaning _ _ c.known.ensures _ _ _
    c.in-Err-Error.field-0-is c.in-Err-Error.ensures.shown c.built-in-Err-Error.ensures

pub returns-in-Err-Incomplete-clause-shown : goal.returns-in-Err-Incomplete-clause-shown
returns-in-Err-Incomplete-clause-shown g c =
    opt_passes _ g.met.I.Items.lawful _ (g.F.Parser.grammar (g.F.Parser.state c.args.self.now.parser)).meaning _ _ _ _ c.in-Err-Incomplete.field-0-is
    (λ x e. cc (e)) c.in-Err-Incomplete.ensures.shown

pub returns-in-Err-Failure-clause-shown : goal.returns-in-Err-Failure-clause-shown
returns-in-Err-Failure-clause-shown g c =
    opt_passes _ g.met.I.Items.lawful _ (g.F.Parser.grammar (g.F.Parser.state c.args.self.now.parser)).meaning _ _ _ _ c.in-Err-Failure.field-0-is
    (λ x e. cc (e)) c.in-Err-Failure.ensures.shown

pub returns-clause-shown : goal.returns-clause-shown
returns-clause-shown g c = opt_passes _ g.met.I.Items.lawful _ (g.F.Parser.grammar (g.F.Parser.state c.args.self.now.parser)).meaning _ _ _ _
    c.in-Err-OutOfMemory.field-0-is (λ x e. cc (e)) c.in-Err-OutOfMemory.ensures.shown
