use Rattle.std.proofs.Common.{refl, length}
use Rattle.nom.proofs.Repeated.{collected_none, consumes, is_shorter}
use Rattle.nom.proofs.Shown.{accepts}
use Rattle.nom_precedence.proofs.ChainShown.{chain_ended, chain_lacks_room, chain_more, chain_stopped, chain_stuck, chain_stuck_within}
use Rattle.nom_precedence.proofs.HeldShown.{held_built, run_none, run_nested, run_more, run_made}
use Rattle.nom_precedence.proofs.ReadShown.{at_states, item_of, kept_more, told_ok}
use Rattle.nom_precedence.proofs.pairs.pairs.Invariants.{pair_at}
use Rattle.nom_precedence.proofs.pairs.pairs.Goals as goal

pub loop-next-init : goal.loop-next-init
loop-next-init g c = record {
  kept = record { prefix = refl; operand = refl; postfix = refl; binary = refl };
  collected = collected_none g.met.I.Items.lawful c.known.ensures
      (run_none _ _ _ _ _ _ _ _ _ _ c.new-outer.ensures.items c.requires.before c.begun-held.ensures);
}

pub grown-requires-clause-nested : goal.grown-requires-clause-nested
grown-requires-clause-nested g c = run_nested _ _ _ _ _ _ _ _ _ _ _ c.loop-next.invariant.collected.held

pub returns-in-Stuck-clause-shown : goal.returns-in-Stuck-clause-shown
returns-in-Stuck-clause-shown g c =
    let i = c.loop-next.invariant in
    let shown = at_states (pair_at g c.args.fold.now (length c.args.levels.now)) i.kept c.in-Ok.ensures.shown in
    chain_stuck_within i.collected g.met.I.Items.lawful (told_ok c.emitted.ensures c.in-Stuck.is shown)

pub returns-then-input_len-clause-shown : goal.returns-then-input_len-clause-shown
returns-then-input_len-clause-shown g c =
    let i = c.loop-next.invariant in
    let shown = at_states (pair_at g c.args.fold.now (length c.args.levels.now)) i.kept c.in-Ok.ensures.shown in
    chain_stuck i.collected (item_of (told_ok c.emitted.ensures c.in-Whole.is shown)) g.met.I.Items.lawful
    c.input_len.ensures c.input_len-in-Whole.ensures c.if-input_len.true

pub returns-in-None-clause-shown : goal.returns-in-None-clause-shown
returns-in-None-clause-shown g c =
    let i = c.loop-next.invariant in
    let shown = at_states (pair_at g c.args.fold.now (length c.args.levels.now)) i.kept c.in-Ok.ensures.shown in
    chain_lacks_room i.collected (item_of (told_ok c.emitted.ensures c.in-Whole.is shown)) c.input_len.ensures c.input_len-in-Whole.ensures
    c.if-input_len.false (held_built _ _ _ i.collected.held (c.grown.ensures.full c.in-None.is).0) tt

pub loop-next-smaller : goal.loop-next-smaller
loop-next-smaller g c =
    let item = accepts c.in-Ok.ensures.shown in
    is_shorter item.rest_is (consumes item.rest_is c.input_len.ensures c.input_len-in-Whole.ensures c.if-input_len.false)

pub loop-next-preserved : goal.loop-next-preserved
loop-next-preserved g c =
    let i = c.loop-next.invariant in
    let shown = at_states (pair_at g c.args.fold.now (length c.args.levels.now)) i.kept c.in-Ok.ensures.shown in
    let item = item_of (told_ok c.emitted.ensures c.in-Whole.is shown) in
    record {
      kept = kept_more c.in-Ok.ensures.kept i.kept;
      collected = chain_more g.met.I.Items.lawful i.collected item c.input_len.ensures c.input_len-in-Whole.ensures c.if-input_len.false
          (run_more _ _ _ _ _ _ _ _ _ _ _ _ _ _ _ c.in-Some.ensures.grown i.collected.held item.built_is);
    }

pub returns-in-Err-Error-clause-shown : goal.returns-in-Err-Error-clause-shown
returns-in-Err-Error-clause-shown g c =
    let i = c.loop-next.invariant in
    let shown = at_states (pair_at g c.args.fold.now (length c.args.levels.now)) i.kept c.in-Err-Error.ensures.shown in
    chain_ended i.collected c.in-Err-Error.field-0-is shown (run_made _ _ _ _ _ _ _ _ _ _ _ _ c.finished.ensures i.collected.held)

pub returns-in-Err-Failure-clause-shown : goal.returns-in-Err-Failure-clause-shown
returns-in-Err-Failure-clause-shown g c =
    let i = c.loop-next.invariant in
    let shown = at_states (pair_at g c.args.fold.now (length c.args.levels.now)) i.kept c.in-Err-Failure.ensures.shown in
    rw c.in-Err-Failure.field-0-is (chain_stopped i.collected c.in-Err-Failure.field-0-is tt shown)

pub returns-in-Err-Incomplete-clause-shown : goal.returns-in-Err-Incomplete-clause-shown
returns-in-Err-Incomplete-clause-shown g c =
    let i = c.loop-next.invariant in
    let shown = at_states (pair_at g c.args.fold.now (length c.args.levels.now)) i.kept c.in-Err-Incomplete.ensures.shown in
    rw c.in-Err-Incomplete.field-0-is (chain_stopped i.collected c.in-Err-Incomplete.field-0-is tt shown)

pub returns-in-Err-OutOfMemory-clause-shown : goal.returns-in-Err-OutOfMemory-clause-shown
returns-in-Err-OutOfMemory-clause-shown g c =
    let i = c.loop-next.invariant in
    let shown = at_states (pair_at g c.args.fold.now (length c.args.levels.now)) i.kept c.in-Err-OutOfMemory.ensures.shown in
    chain_stopped i.collected c.in-Err-OutOfMemory.field-0-is tt shown
