use Rattle.std.proofs.Common.{refl, ◌∙◌}
use Rattle.nom.proofs.Accumulating.{kept_none, kept_ready, built_any, pushed, room_built, room_grows}
use Rattle.nom.proofs.Parts.{shown_at}
use Rattle.nom.proofs.Repeated.{collected_none, consumes, is_shorter}
use Rattle.nom.proofs.Shown.{accepts, err_from_residual}
use Rattle.nom_precedence.proofs.ChainShown.{chain_ended, chain_lacks_room, chain_more, chain_stopped, chain_stuck}
use Rattle.nom_precedence.proofs.ReadShown.{whole_err, whole_item}
use Rattle.nom_precedence.proofs.read.affixes.Goals as goal

pub loop-next-init : goal.loop-next-init
loop-next-init g c = record {
  state_kept = refl;
  collected = collected_none g.met.I.Items.lawful c.known.ensures (kept_none _ _ _ _ _ c.requires.before);
}

pub push_item-requires-clause-kept : goal.push_item-requires-clause-kept
push_item-requires-clause-kept g c = kept_ready _ _ _ _ _ _ c.loop-next.invariant.collected.trees c.loop-next.invariant.collected.held

pub push_item-requires-clause-item : goal.push_item-requires-clause-item
push_item-requires-clause-item g c = built_any _ _ _ (accepts c.in-Ok.ensures.shown).built_is

pub returns-then-input_len-clause-shown : goal.returns-then-input_len-clause-shown
returns-then-input_len-clause-shown g c =
    let i = c.loop-next.invariant in
    chain_stuck i.collected (whole_item (shown_at g.F.Parser.grammar i.state_kept c.in-Ok.ensures.shown)) g.met.I.Items.lawful
    c.input_len.ensures c.input_len-in-Ok.ensures c.if-input_len.true

pub returns-in_err-push_item-in-Ok-clause-shown : goal.returns-in_err-push_item-in-Ok-clause-shown
returns-in_err-push_item-in-Ok-clause-shown g c =
    let i = c.loop-next.invariant in
    let lacks = c.in_err-push_item-in-Ok.ensures.lacks in
    rw (err_from_residual c.from_residual.ensures)
    (chain_lacks_room i.collected (whole_item (shown_at g.F.Parser.grammar i.state_kept c.in-Ok.ensures.shown))
    c.input_len.ensures c.input_len-in-Ok.ensures c.if-input_len.false (room_built _ _ _ _ _ _ i.collected.held lacks)
    (room_grows g.K.Accumulator.LacksRoom g.K.Accumulator.Grows g.K.Accumulator.lacking _ _ _ lacks))

pub loop-next-smaller : goal.loop-next-smaller
loop-next-smaller g c =
    let item = accepts c.in-Ok.ensures.shown in
    is_shorter item.rest_is (consumes item.rest_is c.input_len.ensures c.input_len-in-Ok.ensures c.if-input_len.false)

pub loop-next-preserved : goal.loop-next-preserved
loop-next-preserved g c =
    let i = c.loop-next.invariant in
    let item = whole_item (shown_at g.F.Parser.grammar i.state_kept c.in-Ok.ensures.shown) in
    record {
      state_kept = c.in-Ok.ensures.kept ∙ i.state_kept;
      collected = chain_more g.met.I.Items.lawful i.collected item c.input_len.ensures c.input_len-in-Ok.ensures c.if-input_len.false
          (pushed _ _ _ _ _ _ _ _ _ _ c.in_ok-push_item-in-Ok.ensures.kept i.collected.held item.built_is);
    }

pub returns-in-Err-Error-clause-shown : goal.returns-in-Err-Error-clause-shown
returns-in-Err-Error-clause-shown g c =
    let i = c.loop-next.invariant in
    chain_ended i.collected c.in-Err-Error.field-0-is (whole_err (shown_at g.F.Parser.grammar i.state_kept c.in-Err-Error.ensures.shown)) i.collected.held

pub returns-in-Err-Failure-clause-shown : goal.returns-in-Err-Failure-clause-shown
returns-in-Err-Failure-clause-shown g c =
    let i = c.loop-next.invariant in
    chain_stopped i.collected c.in-Err-Failure.field-0-is tt (whole_err (shown_at g.F.Parser.grammar i.state_kept c.in-Err-Failure.ensures.shown))

pub returns-in-Err-Incomplete-clause-shown : goal.returns-in-Err-Incomplete-clause-shown
returns-in-Err-Incomplete-clause-shown g c =
    let i = c.loop-next.invariant in
    chain_stopped i.collected c.in-Err-Incomplete.field-0-is tt (whole_err (shown_at g.F.Parser.grammar i.state_kept c.in-Err-Incomplete.ensures.shown))

pub returns-in-Err-OutOfMemory-clause-shown : goal.returns-in-Err-OutOfMemory-clause-shown
returns-in-Err-OutOfMemory-clause-shown g c =
    let i = c.loop-next.invariant in
    chain_stopped i.collected c.in-Err-OutOfMemory.field-0-is tt (whole_err (shown_at g.F.Parser.grammar i.state_kept c.in-Err-OutOfMemory.ensures.shown))
