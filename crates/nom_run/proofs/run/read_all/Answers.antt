use Rattle.std.proofs.Common.{arith, ◌≤◌, ◌<◌, ◌∙◌, ◌++◌, length, take, length-append}
use Rattle.nom_io.proofs.Known.{consumes_more}
use Rattle.nom_run.proofs.run.read_all.Goals as goal

pub loop-turn-preserved : goal.loop-turn-preserved
loop-turn-preserved g c =
    let kept = c.in-Ok-keep.ensures.kept in
    let some : 0 < c.in-Ok.count = omega (arith, c.if-count-eq0.false) in
    let n-is = c.in-Ok.ensures.bound.1 in
    let old : c.loop-turn._turn ≤ length c.loop-turn.bytes.items = c.loop-turn.invariant.turns in
    let none = c.loop-turn.invariant.none in
    record {
      read = rw kept (consumes_more _ _ _ c.loop-turn.bytes.items (take c.in-Ok.count c.read.new.room) c.loop-turn.invariant.read c.in-Ok.ensures.bytes.0);
      none = (c.in-Ok.ensures.counts.1 ∙ none.0, c.in-Ok.ensures.stalls ∙ none.1);
      turns = rw (kept, length-append) (omega (arith, some, n-is, old));
      room = omega (arith, c.loop-turn.invariant.room, c.in-Ok-keep.ensures.room);
    }

pub returns-in-Err-keep-clause-error : goal.returns-in-Err-keep-clause-error
returns-in-Err-keep-clause-error g c =
    let some : 0 < c.in-Ok.count = omega (arith, c.if-count-eq0.false) in
    let n-is = c.in-Ok.ensures.bound.1 in
    let more = take c.in-Ok.count c.read.new.room in
    let none = c.loop-turn.invariant.none in
    let lacks = c.in-Err-keep.ensures.lacks in (
      record {
        bytes = c.loop-turn.bytes.items ++ more;
        read = consumes_more _ _ _ c.loop-turn.bytes.items more c.loop-turn.invariant.read c.in-Ok.ensures.bytes.0;
        some = rw length-append (omega (arith, some, n-is));
        none = (c.in-Ok.ensures.counts.1 ∙ none.0, c.in-Ok.ensures.stalls ∙ none.1);
      },
      rw length-append (omega (arith, c.loop-turn.invariant.room, lacks)),
    )
