use Rattle.std.proofs.Common.{◌+◌, ◌*◌}
use Rattle.example_formats.proofs.arithmetic.+fn-sum-inside+sum.Given as goal

-- a sum calls what stands in its brackets, and that a sum at a lower depth
abbrev pub decreases-inside : goal.decreases-inside
decreases-inside l = 2 * l.depth

abbrev pub decreases-sum : goal.decreases-sum
decreases-sum l = 2 * l.depth + 1
