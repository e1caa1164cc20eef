use Rattle.std.proofs.Common.{◌≡◌, ◌-◌, ◌^◌, ◌<◌, ◌≤◌}
use Rattle.std.specs.Io.KnownBytes.{Keeps}
use Rattle.nom_io.specs.Faults.{NoFault}
use Rattle.nom_io.proofs.counted.Counted.write_retried.Given as goal

abbrev pub invariant-loop-turn : goal.invariant-loop-turn
invariant-loop-turn g l = record {
  kept : Keeps (g.W.Write.contents l.fn.self.inner) (g.W.Write.contents l.self.inner);
  none : NoFault l.fn.self.faults l.self.faults;
  flushes : l.self.flushes ≡ l.fn.self.flushes;
  counted : l._turn ≤ l.self.faults.interruptions;
  passed : 0 < l._turn → l.self.faults.interruptions < 2 ^ 64 - 1;
}
