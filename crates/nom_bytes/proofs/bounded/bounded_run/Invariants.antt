use Rattle.std.proofs.Common.{◌≤◌}
use Rattle.nom_bytes.proofs.CountedWalks.{IsCounting}
use Rattle.nom_bytes.proofs.bounded.bounded_run.Given as goal

abbrev pub invariant-loop-index : goal.invariant-loop-index
invariant-loop-index g l =
    (goal.iterator-loop-index g).can_next l.index-iterator
    × (goal.iterator-loop-index g).is_finite l.index-iterator
    × (l.count ≤ l.fn.most)
    × IsCounting g.I.Items.model (g.P.Predicate.answers (g.P.Predicate.state l.fn.predicate))
    (goal.iterator-loop-index g).next_gives l.fn.input l.count l.index-iterator
