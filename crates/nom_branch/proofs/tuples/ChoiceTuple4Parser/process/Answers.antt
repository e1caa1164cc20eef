use Rattle.nom_internal.specs.Prelude.{modes}
use Rattle.nom_branch.proofs.Alternatives.{first_chosen, next_chosen, all_chosen}
use Rattle.nom_branch.proofs.tuples.ChoiceTuple4Parser.process.Goals as goal

pub returns : goal.returns
returns g c =
    let mode = modes g.OM.Output.Mode.BUILDS g.OM.Error.Mode.BUILDS g.OM.Incomplete.IsStreaming.STREAMING in
    let one = first_chosen g.I.Items.model g.A.Error.ParseError.errors mode c.args.input (g.A.Parser.grammar _) _
    c.process-answer.ensures.shown c.process-answer.ensures.side_condition in
    let two = next_chosen one (g.B.Parser.grammar _) _ _ c.next_branch-answer.ensures.shown c.next_branch-answer.ensures.side_condition in
    let three = next_chosen two (g.C.Parser.grammar _) _ _ c.next_branch-answer-2.ensures.shown c.next_branch-answer-2.ensures.side_condition in
    let four = next_chosen three (g.D.Parser.grammar _) _ _ c.next_branch-answer-3.ensures.shown c.next_branch-answer-3.ensures.side_condition in
    let all = all_chosen four c.close.result c.close.ensures in
    record { shown = all.shown; kept = cc; side_condition = all.owed }
