use Rattle.std.proofs.Common.{◌≡◌, ◌-◌, ◌++◌, drop, length, string_bytes, take}
use Rattle.nom_report.specs.Quotes.{written_text}
use Rattle.nom_report.proofs.quote.add_chars.Given as goal

abbrev pub invariant-loop-c : goal.invariant-loop-c
invariant-loop-c g l = record {
  left_is : l.left ≡ l.skip - length l.yielded;
  room_is : l.room_left ≡ l.count - (length l.yielded - l.skip);
  written : string_bytes l.out ≡ string_bytes l.fn.out ++ written_text l.below (take l.count (drop l.skip l.yielded));
}
