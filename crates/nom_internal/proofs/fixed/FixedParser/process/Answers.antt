use Rattle.nom_internal.proofs.Cased.{fixed_shown}
use Rattle.nom_internal.proofs.fixed.FixedParser.process.Goals as goal

pub returns-clause-shown : goal.returns-clause-shown
returns-clause-shown g c = fixed_shown _ _ g.S.IsStreaming.STREAMING (g.P.Parser.grammar (g.P.Parser.state c.args.self.now.parser)).meaning _ _ _
    c.process.ensures.shown
