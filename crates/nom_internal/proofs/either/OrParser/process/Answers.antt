use Rattle.nom_internal.proofs.Choices.{either_shown}
use Rattle.nom_internal.proofs.Owed.{or_side_condition}
use Rattle.nom_internal.proofs.either.OrParser.process.Goals as goal

pub returns-clause-shown : goal.returns-clause-shown
returns-clause-shown g c =
    let p = c.args.self.now in
    either_shown _ (g.F.Parser.grammar (g.F.Parser.state p.first)).IsOutput (g.G.Parser.grammar (g.G.Parser.state p.second)).IsOutput
    g.F.Error.ParseError.errors.joined
    g.F.Error.ParseError.errors.grows (g.F.Parser.grammar (g.F.Parser.state p.first)).meaning
    (g.G.Parser.grammar (g.G.Parser.state p.second)).meaning _ _ _ _ c.process-answer.ensures.shown c.next_branch.ensures.shown

pub returns-clause-side_condition : goal.returns-clause-side_condition
returns-clause-side_condition g c = or_side_condition _ _ c.process-answer.result _ c.process-answer.ensures.side_condition c.next_branch.ensures.side_condition
