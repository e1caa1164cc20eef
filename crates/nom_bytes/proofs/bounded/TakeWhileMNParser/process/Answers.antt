use Rattle.std.proofs.Common.{◌≡◌, None, false, arith, sym, ◌∙◌}
use Rattle.nom_internal.proofs.Shown.{accepted, undecided, refused}
use Rattle.nom_bytes.proofs.BoundedShown.{ended_enough, ended_few, is_none, isnt_none, more_needed}
use Rattle.nom_bytes.proofs.bounded.TakeWhileMNParser.process.Goals as goal
use Rattle.nom_bytes.proofs.bounded.TakeWhileMNParser.process.Goals.{else-is_none-via-then-is_none+else-STREAMING, else-is_none-via-else-is_none}

pub returns-then-STREAMING-clause-shown : goal.returns-then-STREAMING-clause-shown
returns-then-STREAMING-clause-shown g c =
    undecided (c.new.ensures.some (omega (arith, c.lack.ensures)))
    (more_needed g.I.Items.model (g.P.Predicate.answers (g.P.Predicate.state c.args.self.now.predicate)) c.args.self.now.n c.args.self.now.m
    g.OM.Incomplete.IsStreaming.STREAMING c.args.input _ _ _ _ (sym c.STREAMING.ensures ∙ c.if-STREAMING.true)
    (is_none _ _ c.is_none.ensures c.if-is_none.true) c.input_len.ensures c.lack.ensures c.bounded_run-place.ensures)

pub returns-then-enough-count-clause-shown : goal.returns-then-enough-count-clause-shown
returns-then-enough-count-clause-shown g c =
    let over : c.bounded_run-place.result.0 ≡ None → g.OM.Incomplete.IsStreaming.STREAMING ≡ false = elim c.else-is_none.branch [
      | else-is_none-via-then-is_none+else-STREAMING w ↦ λ _. sym w.STREAMING.ensures ∙ w.if-STREAMING.false
      | else-is_none-via-else-is_none w ↦ isnt_none _ _ c.is_none.ensures w.if-is_none.false
    ] in
    let r = ended_enough g.I.Items.model _ c.args.self.now.n c.args.self.now.m g.OM.Incomplete.IsStreaming.STREAMING c.args.input _ _ _ _ _ over
    c.input_len-2.ensures c.min-least.ensures c.run_end-n.ensures c.bounded_run-place.ensures c.if-enough-count.true in
    accepted _ c.take_from.ensures r.1 (c.front.ensures r.0 r.1.0.first)

pub returns-else-enough-count-clause-shown : goal.returns-else-enough-count-clause-shown
returns-else-enough-count-clause-shown g c =
    let over : c.bounded_run-place.result.0 ≡ None → g.OM.Incomplete.IsStreaming.STREAMING ≡ false = elim c.else-is_none.branch [
      | else-is_none-via-then-is_none+else-STREAMING w ↦ λ _. sym w.STREAMING.ensures ∙ w.if-STREAMING.false
      | else-is_none-via-else-is_none w ↦ isnt_none _ _ c.is_none.ensures w.if-is_none.false
    ] in
    refused c.refusal.ensures (ended_few g.I.Items.model _ c.args.self.now.n c.args.self.now.m g.OM.Incomplete.IsStreaming.STREAMING c.args.input _ _ _ _ _
    over c.min-least.ensures c.run_end-n.ensures c.bounded_run-place.ensures c.if-enough-count.false)
