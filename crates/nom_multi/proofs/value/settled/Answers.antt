use Rattle.nom_multi.proofs.ValueShown.{settled_shown}
use Rattle.nom_multi.proofs.value.settled.Goals as goal

pub returns-clause-shown : goal.returns-clause-shown
returns-clause-shown g c =
    settled_shown _ (g.G.Parser.grammar (g.G.Parser.state c.args.parser.now)).IsOutput g.G.Error.ParseError.errors
    (g.G.Parser.grammar (g.G.Parser.state c.args.parser.now)).meaning _ c.args.input _ _ c.settle.ensures c.process.ensures.shown
