use Rattle.std.proofs.Common.{◌≡◌, ◌*◌, ◌++◌}
use Rattle.std.specs.Prelude.{replicate}
use Rattle.nom_values.proofs.dump.push_blanks.Given as goal

abbrev pub invariant-loop-byte : goal.invariant-loop-byte
invariant-loop-byte g l = l.dump.items ≡ l.initial.dump.items ++ replicate (3 * l._byte) 32
