use Rattle.std.proofs.Common.{length, ◌-◌, ◌≡◌, ◌+◌, drop}
use Rattle.nom_located.specs.Located.{FitsPlace, place, past_bytes}
use Rattle.nom_located.proofs.located.line_after_few.Given as goal

abbrev pub invariant-loop-byte : goal.invariant-loop-byte
invariant-loop-byte l = record {
  passed : past_bytes (place (l.fn.offset + l.byte-index) l.lines l.columns) (drop l.byte-index l.bytes) ≡
      past_bytes (place l.fn.offset l.fn.line l.fn.column) l.fn.bytes;
  left : FitsPlace (place (l.fn.offset + l.byte-index) l.lines l.columns) (length l.bytes - l.byte-index);
}
