use Rattle.std.proofs.Common.{◌≡◌, length, ◌-◌, ◌≤◌, take}
use Rattle.std.specs.Io.KnownBytes.{Appends}
use Rattle.nom_io.specs.Faults.{NoFault}
use Rattle.nom_io.proofs.counted.Counted.write_all.Given as goal

abbrev pub invariant-loop-at : goal.invariant-loop-at
invariant-loop-at g l = record {
  within : l.at ≤ length l.bytes;
  wrote : Appends (g.W.Write.contents l.fn.self.inner) (g.W.Write.contents l.self.inner) (take l.at l.bytes);
  none : NoFault l.fn.self.faults l.self.faults;
  flushes : l.self.flushes ≡ l.fn.self.flushes;
}

abbrev pub decreases-loop-at : goal.decreases-loop-at
decreases-loop-at g l = length l.bytes - l.at
