use Rattle.nom_combinator.proofs.Contextual.{renamed_ok, renamed_err}
use Rattle.nom_combinator.proofs.named.ContextParser.process.Goals as goal

pub returns-in-Ok-clause-shown : goal.returns-in-Ok-clause-shown
returns-in-Ok-clause-shown g c =
    renamed_ok _ _ (λ i. g.F.Error.ContextError.contexts.named i c.args.self.now.context.now) g.F.Error.ContextError.contexts.grows
    (g.F.Parser.grammar (g.F.Parser.state c.args.self.now.parser)).meaning _ _ _ c.in-Ok.ensures.shown

pub returns-in-Err-clause-shown : goal.returns-in-Err-clause-shown
returns-in-Err-clause-shown g c =
    renamed_err _ _ (λ i. g.F.Error.ContextError.contexts.named i c.args.self.now.context.now) g.F.Error.ContextError.contexts.grows
    (g.F.Parser.grammar (g.F.Parser.state c.args.self.now.parser)).meaning _ _ _ _ c.in-Err.ensures.shown c.named.ensures
