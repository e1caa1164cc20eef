use Rattle.nom_combinator.proofs.Judged.{cut_ok, cut_refused, cut_passes}
use Rattle.nom_combinator.proofs.verdict.CutParser.process.Goals as goal

pub returns-in-Ok-clause-shown : goal.returns-in-Ok-clause-shown
returns-in-Ok-clause-shown g c = cut_ok _ _ (g.F.Parser.grammar (g.F.Parser.state c.args.self.now.parser)).meaning _ _ _ c.in-Ok.ensures.shown

pub returns-in-Err-Error-Some-clause-shown : goal.returns-in-Err-Error-Some-clause-shown
returns-in-Err-Error-Some-clause-shown g c =
    cut_refused _ _ (g.F.Parser.grammar (g.F.Parser.state c.args.self.now.parser)).meaning _ _ _ _ _ c.in-Err-Error-Some.field-0-is
    c.in-Err-Error-Some.field-0-0-is c.in-Err-Error-Some.ensures.shown

pub returns-in-Err-Incomplete-clause-shown : goal.returns-in-Err-Incomplete-clause-shown
returns-in-Err-Incomplete-clause-shown g c =
    cut_passes _ _ (g.F.Parser.grammar (g.F.Parser.state c.args.self.now.parser)).meaning _ _ _ _ c.in-Err-Incomplete.field-0-is (λ x e. cc (e))
    c.in-Err-Incomplete.ensures.shown

pub returns-in-Err-Failure-clause-shown : goal.returns-in-Err-Failure-clause-shown
returns-in-Err-Failure-clause-shown g c =
    cut_passes _ _ (g.F.Parser.grammar (g.F.Parser.state c.args.self.now.parser)).meaning _ _ _ _ c.in-Err-Failure.field-0-is (λ x e. cc (e))
    c.in-Err-Failure.ensures.shown

pub returns-in-Err-OutOfMemory-clause-shown : goal.returns-in-Err-OutOfMemory-clause-shown
returns-in-Err-OutOfMemory-clause-shown g c =
    cut_passes _ _ (g.F.Parser.grammar (g.F.Parser.state c.args.self.now.parser)).meaning _ _ _ _ c.in-Err-OutOfMemory.field-0-is (λ x e. cc (e))
    c.in-Err-OutOfMemory.ensures.shown
