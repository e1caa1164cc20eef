use Rattle.example_parts.proofs.Depths.{IsOnWay}
use Rattle.example_parts.proofs.nested.depth_past.Given as goal

abbrev pub invariant-loop-c : goal.invariant-loop-c
invariant-loop-c l =
    (goal.iterator-loop-c).can_next l.c-iterator × (goal.iterator-loop-c).is_finite l.c-iterator × IsOnWay l.text l.c-iterator.rest.now l.fn.depth l.past
