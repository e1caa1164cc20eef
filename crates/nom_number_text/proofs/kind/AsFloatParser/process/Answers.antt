use Rattle.nom_error.specs.declared.kind.ErrorKind.TheVariants as Kind
use Rattle.nom_combinator.proofs.Contextual.{renamed_ok, renamed_err}
use Rattle.nom_number_text.proofs.kind.AsFloatParser.process.Goals as goal

pub returns-in-Ok-clause-shown : goal.returns-in-Ok-clause-shown
returns-in-Ok-clause-shown g c =
    renamed_ok _ _ (λ i _. g.F.Error.ParseError.errors.of_kind i Kind.Float) g.F.Error.ParseError.errors.grows
    (g.F.Parser.grammar (g.F.Parser.state c.args.self.now.parser)).meaning _ _ _ c.in-Ok.ensures.shown

pub returns-in-Err-clause-shown : goal.returns-in-Err-clause-shown
returns-in-Err-clause-shown g c =
    renamed_err _ _ (λ i _. g.F.Error.ParseError.errors.of_kind i Kind.Float) g.F.Error.ParseError.errors.grows
    (g.F.Parser.grammar (g.F.Parser.state c.args.self.now.parser)).meaning _ _ _ _ c.in-Err.ensures.shown c.of_float.ensures
