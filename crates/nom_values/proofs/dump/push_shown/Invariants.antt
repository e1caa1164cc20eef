use Rattle.std.proofs.Common.{◌≡◌, ◌++◌, take}
use Rattle.std.specs.Prelude.{map}
use Rattle.nom_values.specs.Dumps.{shown_byte}
use Rattle.nom_values.proofs.dump.push_shown.Given as goal

abbrev pub invariant-loop-byte : goal.invariant-loop-byte
invariant-loop-byte g l = l.dump.items ≡ l.initial.dump.items ++ map shown_byte (take l.byte-index l.bytes)
