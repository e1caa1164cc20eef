use Rattle.std.proofs.Common.{length, ◌-◌, ◌≡◌, ◌+◌, ◌≤◌, drop}
use Rattle.nom_located.specs.Located.{FitsPlace, place, past_bytes}
use Rattle.nom_located.proofs.located.line_after.Given as goal

abbrev pub invariant-loop-end : goal.invariant-loop-end
invariant-loop-end l = record {
  within : l.at ≤ length l.bytes;
  passed : past_bytes (place (l.fn.offset + l.at) l.line l.column) (drop l.at l.bytes) ≡ past_bytes (place l.fn.offset l.fn.line l.fn.column) l.fn.bytes;
  left : FitsPlace (place (l.fn.offset + l.at) l.line l.column) (length l.bytes - l.at);
}

abbrev pub decreases-loop-end : goal.decreases-loop-end
decreases-loop-end l = length l.bytes - l.at
