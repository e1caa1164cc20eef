use Rattle.nom_choose.proofs.First.{first_tried, next_tried}
use Rattle.nom_choose.proofs.slots.try_slot.Goals as goal

pub returns-then-is_waiting-clause-shown : goal.returns-then-is_waiting-clause-shown
returns-then-is_waiting-clause-shown g c =
    first_tried g.I.Items.model _ g.P.Error.ParseError.errors.joined g.P.Error.ParseError.errors.grows
    (g.P.Parser.grammar (g.P.Parser.state c.args.member.now)).meaning g.OM.Output.Mode.BUILDS g.OM.Error.Mode.BUILDS g.OM.Incomplete.IsStreaming.STREAMING
    c.args.input c.args.slot.now c.try_first.new.slot c.args.round c.try_first.result (c.is_waiting.ensures.waiting c.if-is_waiting.true)
    c.in-None.is c.try_first.ensures.shown

pub returns-then-is_waiting-2-clause-shown : goal.returns-then-is_waiting-2-clause-shown
returns-then-is_waiting-2-clause-shown g c =
    let refused = c.in-Some-Err-Error in
    next_tried g.I.Items.model _ g.P.Error.ParseError.errors.joined g.P.Error.ParseError.errors.grows
    (g.P.Parser.grammar (g.P.Parser.state c.args.member.now)).meaning g.OM.Output.Mode.BUILDS g.OM.Error.Mode.BUILDS g.OM.Incomplete.IsStreaming.STREAMING
    c.args.input c.args.slot.now c.try_next.new.slot c.args.round c.try_next.result
    (c.is_waiting-in-Some-Err-Error.ensures.waiting c.if-is_waiting-2.true) refused.error
    (cc (refused.is, refused.field-0-is, refused.field-0-0-is)) c.try_next.ensures.shown
