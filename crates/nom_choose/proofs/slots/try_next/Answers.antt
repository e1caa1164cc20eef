use Rattle.nom_internal.specs.Prelude.{modes}
use Rattle.nom_internal.proofs.Choices.{next_shown}
use Rattle.nom_choose.proofs.slots.try_next.Goals as goal

pub returns-clause-shown : goal.returns-clause-shown
returns-clause-shown g c =
    let mode = modes g.OM.Output.Mode.BUILDS g.OM.Error.Mode.BUILDS g.OM.Incomplete.IsStreaming.STREAMING in (
      c.join-answer.result,
      (λ b. next_shown g.I.Items.model _ mode c.args.input _ g.P.Error.ParseError.errors.joined g.P.Error.ParseError.errors.grows
          c.args.error c.process.result c.join-answer.result b c.process.ensures.shown c.join-answer.ensures),
      c.fill.ensures,
    )
