use Rattle.std.proofs.Common.{◌≡◌, ◌++◌, take}
use Rattle.std.specs.Prelude.{flat_map}
use Rattle.nom_values.specs.Dumps.{hex_byte}
use Rattle.nom_values.proofs.dump.push_digits.Given as goal

abbrev pub invariant-loop-byte : goal.invariant-loop-byte
invariant-loop-byte g l = l.dump.items ≡ l.initial.dump.items ++ flat_map hex_byte (take l.byte-index l.bytes)
