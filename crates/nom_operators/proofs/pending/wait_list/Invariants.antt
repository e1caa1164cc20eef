use Rattle.std.proofs.Common.{◌≡◌, ◌+◌, reverse, length}
use Rattle.nom_operators.specs.helpers.Pending.{with_prefixes}
use Rattle.nom_operators.specs.Steps.{HasOutermost, waiting}
use Rattle.nom_operators.proofs.pending.wait_list.Given as goal

abbrev pub invariant-loop-prefix : goal.invariant-loop-prefix
invariant-loop-prefix g l = record {
  waits : with_prefixes (reverse l.prefixes.items) (waiting l.inner l.outer.items) ≡
      with_prefixes l.fn.prefixes.items (waiting l.fn.innermost l.fn.outer.items);
  nested : HasOutermost l.inner l.outer.items;
  all : length (waiting l.inner l.outer.items) + length l.prefixes.items ≡ length (waiting l.fn.innermost l.fn.outer.items) + length l.fn.prefixes.items;
}

abbrev pub decreases-loop-prefix : goal.decreases-loop-prefix
decreases-loop-prefix g l = length l.prefixes.items
