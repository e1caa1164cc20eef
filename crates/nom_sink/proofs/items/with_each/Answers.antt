use Rattle.std.proofs.Common.{arith, refl, ◌∙◌}
use Rattle.nom_sink.proofs.Lists.{all_added, none_added, one_added, one_fails, undone}
use Rattle.nom_sink.proofs.items.with_each.Goals as goal

pub loop-item-init : goal.loop-item-init
loop-item-init g c = record {
  so_far = none_added _ _ g.S.Sink.model.lack c.args.args.1.now (g.S.Sink.model.items c.args.out);
  room = omega arith;
  loan = refl;
}

pub loop-item-preserved : goal.loop-item-preserved
loop-item-preserved g c = record {
  so_far = one_added _ _ _ _ _ _ c.loop-item-test.true c.item-item.is _ _ _ c.loop-item.invariant.so_far c.in-Ok.ensures.written;
  room = omega (arith, c.loop-item.invariant.room, c.in-Ok.ensures.room);
  loan = c.in-Ok.ensures.loan ∙ c.loop-item.invariant.loan;
}

pub returns-in-Err-clause-written : goal.returns-in-Err-clause-written
returns-in-Err-clause-written g c =
    let i = c.loop-item.invariant in
    let w = c.in-Err.ensures.written in (
      undone _ _ i.so_far.added _ _ _ c.len-start.ensures i.so_far.whole w.0 c.truncate.ensures.items,
      (w.1.0, omega (arith, i.room, w.1.1), one_fails _ _ _ _ _ _ c.loop-item-test.true c.item-item.is _ _ i.so_far w.1.0 _ w.1.2),
    )

pub returns-in-Err-clause-room : goal.returns-in-Err-clause-room
returns-in-Err-clause-room g c = omega (arith, c.loop-item.invariant.room, c.in-Err.ensures.room, c.truncate.ensures.room)

pub returns-clause-written : goal.returns-clause-written
returns-clause-written g c = all_added _ _ _ _ _ c.loop-item-test.false _ _ c.loop-item.invariant.so_far

pub returns-clause-room : goal.returns-clause-room
returns-clause-room g c = c.loop-item.invariant.room
