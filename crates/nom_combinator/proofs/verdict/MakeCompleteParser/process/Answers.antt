use Rattle.nom_error.specs.declared.kind.ErrorKind.TheVariants as Kind
use Rattle.nom_combinator.proofs.Judged.{complete_ok, complete_wanted, complete_passes}
use Rattle.nom_combinator.proofs.verdict.MakeCompleteParser.process.Goals as goal

pub returns-in-Ok-clause-shown : goal.returns-in-Ok-clause-shown
returns-in-Ok-clause-shown g c =
    complete_ok _ _ (λ i. g.F.Error.ParseError.errors.of_kind i Kind.Complete) g.F.Error.ParseError.errors.grows
    (g.F.Parser.grammar (g.F.Parser.state c.args.self.now.parser)).meaning _ _ _ c.in-Ok.ensures.shown

pub returns-in-Err-Error-clause-shown : goal.returns-in-Err-Error-clause-shown
returns-in-Err-Error-clause-shown g c =
    complete_passes _ _ (λ i. g.F.Error.ParseError.errors.of_kind i Kind.Complete) g.F.Error.ParseError.errors.grows
    (g.F.Parser.grammar (g.F.Parser.state c.args.self.now.parser)).meaning _ _ _ _ c.in-Err-Error.field-0-is (λ x e. cc (e)) c.in-Err-Error.ensures.shown

pub returns-in-Err-Incomplete-clause-shown : goal.returns-in-Err-Incomplete-clause-shown
returns-in-Err-Incomplete-clause-shown g c =
    complete_wanted _ _ (λ i. g.F.Error.ParseError.errors.of_kind i Kind.Complete) g.F.Error.ParseError.errors.grows
    (g.F.Parser.grammar (g.F.Parser.state c.args.self.now.parser)).meaning
    _ _ _ _ c.in-Err-Incomplete.field-0-is c.in-Err-Incomplete.ensures.shown _ c.refusal.ensures

pub returns-in-Err-Failure-clause-shown : goal.returns-in-Err-Failure-clause-shown
returns-in-Err-Failure-clause-shown g c =
    complete_passes _ _ (λ i. g.F.Error.ParseError.errors.of_kind i Kind.Complete) g.F.Error.ParseError.errors.grows
    (g.F.Parser.grammar (g.F.Parser.state c.args.self.now.parser)).meaning _ _ _ _ c.in-Err-Failure.field-0-is (λ x e. cc (e)) c.in-Err-Failure.ensures.shown

pub returns-in-Err-OutOfMemory-clause-shown : goal.returns-in-Err-OutOfMemory-clause-shown
returns-in-Err-OutOfMemory-clause-shown g c =
    complete_passes _ _ (λ i. g.F.Error.ParseError.errors.of_kind i Kind.Complete) g.F.Error.ParseError.errors.grows
    (g.F.Parser.grammar (g.F.Parser.state c.args.self.now.parser)).meaning _ _ _ _ c.in-Err-OutOfMemory.field-0-is (λ x e. cc (e))
    c.in-Err-OutOfMemory.ensures.shown
