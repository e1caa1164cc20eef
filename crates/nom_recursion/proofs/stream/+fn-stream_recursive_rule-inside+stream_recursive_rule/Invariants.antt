use Rattle.std.proofs.Common.{◌+◌, ◌*◌}
use Rattle.nom_recursion.proofs.stream.+fn-stream_recursive_rule-inside+stream_recursive_rule.Given as goal

-- a layer calls what lies inside it, and that a layer at a lower depth
abbrev pub decreases-inside : goal.decreases-inside
decreases-inside g l = 2 * l.below + 2

abbrev pub decreases-stream_recursive_rule : goal.decreases-stream_recursive_rule
decreases-stream_recursive_rule g l = 2 * l.depth + 1
