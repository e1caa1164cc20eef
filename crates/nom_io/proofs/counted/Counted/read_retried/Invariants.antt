use Rattle.std.proofs.Common.{◌≡◌, ◌+◌, ◌-◌, ◌^◌, ◌<◌, ◌≤◌, length}
use Rattle.std.specs.Io.KnownBytes.{Keeps}
use Rattle.nom_io.specs.Faults.{NoFault}
use Rattle.nom_io.proofs.counted.Counted.read_retried.Given as goal

abbrev pub invariant-loop-turn : goal.invariant-loop-turn
invariant-loop-turn g l = record {
  kept : Keeps (g.R.Read.remaining l.fn.self.inner) (g.R.Read.remaining l.self.inner);
  len : length l.room ≡ length l.fn.room;
  none : NoFault l.fn.self.faults l.self.faults;
  counted : l._turn ≤ l.self.faults.interruptions;
  passed : 0 < l._turn → l.self.faults.interruptions < 2 ^ 64 - 1;
}
