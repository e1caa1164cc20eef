use Rattle.std.proofs.Common.{◌+◌, ◌*◌}
use Rattle.nom_recursion.proofs.recursion.+fn-recursive_rule-inside+recursive_rule.Given as goal

-- a layer calls what lies inside it, and that a layer at a lower depth
abbrev pub decreases-inside : goal.decreases-inside
decreases-inside g l = 2 * l.below + 2

abbrev pub decreases-recursive_rule : goal.decreases-recursive_rule
decreases-recursive_rule g l = 2 * l.depth + 1
