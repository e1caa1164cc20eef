use Rattle.std.proofs.Common.{◌≤◌, rules, refl, subst}
use Rattle.nom_internal.proofs.Shown.{accepts, err_from_residual}
use Rattle.nom_repeat.proofs.Repeated.{collected_as, is_empty}
use Rattle.nom_repeat.proofs.Counted.{counts_all, counts_more, are_below, below, at_bound, few_items, enough_items, left_falls}
use Rattle.nom_repeat.proofs.Accumulating.{kept_ready, built_any, pushed, room_built, room_grows}
use Rattle.nom_repeat.proofs.ItemsShown.{items_full, items_refused, items_too_few, items_stopped, items_stuck}
use Rattle.nom_repeat.proofs.ItemsShown.{items_lack_room, items_more, moves, part_at, some_few}
use Rattle.nom_internal.proofs.Consumed.{rest_length}
use Rattle.nom_repeat.proofs.items.items.Goals as goal

pub loop-input-init : goal.loop-input-init
loop-input-init g c = record {
  state_kept = c.items_ahead-rest.ensures.kept;
  collected = collected_as _ _ (λ vs k. (k.0, counts_all c.args.limits.most _ vs k.1)) (c.items_ahead-rest.ensures.collected c.args.limits
      (are_below c.args.limits.most _ (subst (λ z. c.items_ahead-rest.result.2 ≤ z) c.unwrap_or-most.ensures c.items_ahead-rest.ensures.bounded)));
}

pub returns-then-is_full-clause-shown : goal.returns-then-is_full-clause-shown
returns-then-is_full-clause-shown g c =
    let i = c.loop-input.invariant in
    items_full g.F.Error.ParseError.errors c.args.limits g.K.Accumulator.Grows (g.F.Parser.grammar (g.F.Parser.state c.args.parser.now)).meaning i.collected
    (at_bound _ _ _ i.collected.held.1 (c.is_full.ensures.full (search rules))) i.collected.held.0

pub returns-in-Some-clause-shown : goal.returns-in-Some-clause-shown
returns-in-Some-clause-shown g c =
    let i = c.loop-input.invariant in
    let part = part_at g.F.Parser.grammar c.requires.errors i.state_kept c.in-Ok.ensures.shown in
    let is_below = below _ _ _ i.collected.held.1 (c.is_full.ensures.below c.if-is_full.false) in
    let item = accepts part in
    items_stuck g.F.Error.ParseError.errors c.args.limits g.K.Accumulator.Grows (g.F.Parser.grammar (g.F.Parser.state c.args.parser.now)).meaning
    i.collected is_below
    item c.in-Some.kind c.in-Some.ensures.0 (is_empty item.rest_is c.input_len-in-Ok.ensures c.input_len.ensures c.in-Some.ensures.1) c.refusal.ensures

pub push_item-requires-clause-kept : goal.push_item-requires-clause-kept
push_item-requires-clause-kept g c =
    let i = c.loop-input.invariant in
    kept_ready g.K.Accumulator.Pushes g.K.Accumulator.CanPush (g.F.Parser.grammar (g.F.Parser.state c.args.parser.now)).IsOutput _ _ _ i.collected.trees
    i.collected.held.0

pub push_item-requires-clause-item : goal.push_item-requires-clause-item
push_item-requires-clause-item g c = built_any _ _ _ (accepts c.in-Ok.ensures.shown).built_is

pub returns-in_err-push_item-in-None-clause-shown : goal.returns-in_err-push_item-in-None-clause-shown
returns-in_err-push_item-in-None-clause-shown g c =
    let i = c.loop-input.invariant in
    let part = part_at g.F.Parser.grammar c.requires.errors i.state_kept c.in-Ok.ensures.shown in
    let is_below = below _ _ _ i.collected.held.1 (c.is_full.ensures.below c.if-is_full.false) in
    let item = accepts part in
    let lacks = c.in_err-push_item-in-None.ensures.lacks in
    rw (err_from_residual c.from_residual.ensures) (
    items_lack_room g.F.Error.ParseError.errors c.args.limits g.K.Accumulator.Grows (g.F.Parser.grammar (g.F.Parser.state c.args.parser.now)).meaning
    i.collected is_below item (moves item.rest_is c.input_len.ensures c.input_len-in-Ok.ensures c.in-None.ensures)
    (room_built g.K.Accumulator.LacksRoom _ _ _ _ _ i.collected.held.0 lacks)
    (room_grows g.K.Accumulator.LacksRoom g.K.Accumulator.Grows g.K.Accumulator.lacking _ _ _ lacks))

pub loop-input-smaller : goal.loop-input-smaller
loop-input-smaller g c =
    let i = c.loop-input.invariant in
    let item = accepts c.in-Ok.ensures.shown in
    left_falls c.args.limits.empty c.args.limits.most _ _ _ _ item.length c.requires.limits.ends (c.is_full.ensures.below c.if-is_full.false)
    c.one_more-count.ensures (moves item.rest_is c.input_len.ensures c.input_len-in-Ok.ensures c.in-None.ensures) (rest_length item.rest_is)

pub loop-input-preserved : goal.loop-input-preserved
loop-input-preserved g c =
    let i = c.loop-input.invariant in
    let part = part_at g.F.Parser.grammar c.requires.errors i.state_kept c.in-Ok.ensures.shown in
    let is_below = below _ _ _ i.collected.held.1 (c.is_full.ensures.below c.if-is_full.false) in
    let item = accepts part in
    let pushes = c.in_ok-push_item-in-None.ensures.kept in
    record {
      state_kept = cc;
      collected = items_more g.met.I.Items.lawful c.args.limits i.collected is_below item
          (moves item.rest_is c.input_len.ensures c.input_len-in-Ok.ensures c.in-None.ensures) (
            pushed g.K.Accumulator.Pushes g.K.Accumulator.CanPush (g.F.Parser.grammar (g.F.Parser.state c.args.parser.now)).IsOutput _ _ _ _ _ _ _ pushes
                i.collected.held.0
                item.built_is,
            counts_more c.args.limits.most _ _ _ _ i.collected.held.1 c.one_more-count.ensures,
          );
    }

pub few-requires : goal.few-requires
few-requires g c = some_few c.args.limits c.loop-input.count c.requires.limits (search rules)

pub returns-then-count-limits-clause-shown : goal.returns-then-count-limits-clause-shown
returns-then-count-limits-clause-shown g c =
    let i = c.loop-input.invariant in
    let part = part_at g.F.Parser.grammar c.requires.errors i.state_kept c.in-Err-Error.ensures.shown in
    let is_below = below _ _ _ i.collected.held.1 (c.is_full.ensures.below c.if-is_full.false) in
    items_too_few g.F.Error.ParseError.errors c.args.limits g.K.Accumulator.Grows (g.F.Parser.grammar (g.F.Parser.state c.args.parser.now)).meaning i.collected
    is_below (few_items _ _ _ _ i.collected.held.1 c.requires.limits.has_bound (search rules)) c.args.limits.too_few refl c.in-Err-Error.field-0-is
    part c.place-at.ensures c.few.ensures

pub returns-in-Err-Error-clause-shown : goal.returns-in-Err-Error-clause-shown
returns-in-Err-Error-clause-shown g c =
    let i = c.loop-input.invariant in
    let part = part_at g.F.Parser.grammar c.requires.errors i.state_kept c.in-Err-Error.ensures.shown in
    let is_below = below _ _ _ i.collected.held.1 (c.is_full.ensures.below c.if-is_full.false) in
    items_refused g.F.Error.ParseError.errors c.args.limits g.K.Accumulator.Grows (g.F.Parser.grammar (g.F.Parser.state c.args.parser.now)).meaning i.collected
    is_below (enough_items _ _ _ _ i.collected.held.1 c.requires.limits.has_bound (search rules)) c.in-Err-Error.field-0-is part i.collected.held.0

pub returns-in-Err-Failure-clause-shown : goal.returns-in-Err-Failure-clause-shown
returns-in-Err-Failure-clause-shown g c =
    let i = c.loop-input.invariant in
    items_stopped g.F.Error.ParseError.errors c.args.limits (g.F.Parser.grammar (g.F.Parser.state c.args.parser.now)).meaning i.collected
    (below _ _ _ i.collected.held.1 (c.is_full.ensures.below c.if-is_full.false)) c.in-Err-Failure.field-0-is tt
    (part_at g.F.Parser.grammar c.requires.errors i.state_kept c.in-Err-Failure.ensures.shown)

pub returns-in-Err-Incomplete-clause-shown : goal.returns-in-Err-Incomplete-clause-shown
returns-in-Err-Incomplete-clause-shown g c =
    let i = c.loop-input.invariant in
    items_stopped g.F.Error.ParseError.errors c.args.limits (g.F.Parser.grammar (g.F.Parser.state c.args.parser.now)).meaning i.collected
    (below _ _ _ i.collected.held.1 (c.is_full.ensures.below c.if-is_full.false)) c.in-Err-Incomplete.field-0-is tt
    (part_at g.F.Parser.grammar c.requires.errors i.state_kept c.in-Err-Incomplete.ensures.shown)

pub returns-in-Err-OutOfMemory-clause-shown : goal.returns-in-Err-OutOfMemory-clause-shown
returns-in-Err-OutOfMemory-clause-shown g c =
    let i = c.loop-input.invariant in
    items_stopped g.F.Error.ParseError.errors c.args.limits (g.F.Parser.grammar (g.F.Parser.state c.args.parser.now)).meaning i.collected
    (below _ _ _ i.collected.held.1 (c.is_full.ensures.below c.if-is_full.false)) c.in-Err-OutOfMemory.field-0-is tt
    (part_at g.F.Parser.grammar c.requires.errors i.state_kept c.in-Err-OutOfMemory.ensures.shown)
