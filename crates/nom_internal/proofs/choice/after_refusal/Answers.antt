use Rattle.nom_internal.proofs.Choices.{next_shown}
use Rattle.nom_internal.proofs.Owed.{join_rest}
use Rattle.nom_internal.proofs.choice.after_refusal.Goals as goal

pub returns-clause-shown : goal.returns-clause-shown
returns-clause-shown g c = λ b. next_shown g.I.Items.model _ _ c.args.input _ g.P.Error.ParseError.errors.joined g.P.Error.ParseError.errors.grows
    c.args.error c.process.result c.join.result b c.process.ensures.shown c.join.ensures

pub returns-clause-side_condition : goal.returns-clause-side_condition
returns-clause-side_condition g c =
    rw (join_rest g.P.Error.ParseError.errors.joined g.P.Error.ParseError.errors.grows c.args.error c.process.result c.join.result c.join.ensures)
    c.process.ensures.side_condition
