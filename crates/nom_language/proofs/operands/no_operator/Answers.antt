use Rattle.nom_combinator.proofs.Judged.{not_accepted, not_refused, not_passes}
use Rattle.nom_error.specs.declared.kind.ErrorKind.TheVariants as Kind
use Rattle.nom_language.proofs.operands.no_operator.Goals as goal

pub returns-in-Ok-clause-shown : goal.returns-in-Ok-clause-shown
returns-in-Ok-clause-shown g c =
    not_accepted _ g.met.I.Items.lawful _ (λ i. g.C.Error.ParseError.errors.of_kind i Kind.Precedence) g.C.Error.ParseError.errors.grows
    (g.C.Parser.grammar (g.C.Parser.state c.args.binary.now)).meaning _ _ _ _ c.in-Ok.ensures.shown c.refusal.ensures

pub returns-in-Err-Error-clause-shown : goal.returns-in-Err-Error-clause-shown
returns-in-Err-Error-clause-shown g c =
    not_refused _ g.met.I.Items.lawful _ (λ i. g.C.Error.ParseError.errors.of_kind i Kind.Precedence) g.C.Error.ParseError.errors.grows
    (g.C.Parser.grammar (g.C.Parser.state c.args.binary.now)).meaning _ _ c.known.ensures _ _ _ c.in-Err-Error.field-0-is
    c.in-Err-Error.ensures.shown c.built.ensures

pub returns-in-Err-Incomplete-clause-shown : goal.returns-in-Err-Incomplete-clause-shown
returns-in-Err-Incomplete-clause-shown g c =
    not_passes _ g.met.I.Items.lawful _ (λ i. g.C.Error.ParseError.errors.of_kind i Kind.Precedence) g.C.Error.ParseError.errors.grows
    (g.C.Parser.grammar (g.C.Parser.state c.args.binary.now)).meaning _ _ _ _ c.in-Err-Incomplete.field-0-is (λ x e. cc (e))
    c.in-Err-Incomplete.ensures.shown

pub returns-in-Err-Failure-clause-shown : goal.returns-in-Err-Failure-clause-shown
returns-in-Err-Failure-clause-shown g c =
    not_passes _ g.met.I.Items.lawful _ (λ i. g.C.Error.ParseError.errors.of_kind i Kind.Precedence) g.C.Error.ParseError.errors.grows
    (g.C.Parser.grammar (g.C.Parser.state c.args.binary.now)).meaning _ _ _ _ c.in-Err-Failure.field-0-is (λ x e. cc (e)) c.in-Err-Failure.ensures.shown

pub returns-clause-shown : goal.returns-clause-shown
returns-clause-shown g c =
    not_passes _ g.met.I.Items.lawful _ (λ i. g.C.Error.ParseError.errors.of_kind i Kind.Precedence) g.C.Error.ParseError.errors.grows
    (g.C.Parser.grammar (g.C.Parser.state c.args.binary.now)).meaning _ _ _ _ c.in-Err-OutOfMemory.field-0-is (λ x e. cc (e))
    c.in-Err-OutOfMemory.ensures.shown
