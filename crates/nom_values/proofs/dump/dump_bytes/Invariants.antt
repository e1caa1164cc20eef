use Rattle.std.proofs.Common.{ℕ, ◌≡◌, ◌+◌, ◌*◌, ◌-◌, ◌<◌, ◌≤◌, ◌++◌, length, drop}
use Rattle.nom_values.specs.Dumps.{dump_lines, hex_dump}
use Rattle.nom_values.proofs.dump.dump_bytes.Given as goal

abbrev pub invariant-loop-passed : goal.invariant-loop-passed
invariant-loop-passed g l =
    (k : ℕ) × (n : ℕ) × (l.passed < length l.bytes → l.passed ≡ k * l.chunk) × (l.passed ≤ length l.bytes) × (length l.bytes ≤ n + l.passed)
    × (l.dump.items ++ dump_lines n l.chunk (l.from + l.passed) (drop l.passed l.bytes) ≡ hex_dump l.chunk l.from l.bytes)

abbrev pub decreases-loop-passed : goal.decreases-loop-passed
decreases-loop-passed g l = length l.bytes - l.passed
