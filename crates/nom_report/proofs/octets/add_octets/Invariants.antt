use Rattle.std.proofs.Common.{◌≡◌, ◌++◌, string_bytes, take}
use Rattle.nom_report.specs.Octets.{octets_text}
use Rattle.nom_report.proofs.octets.add_octets.Given as goal

abbrev pub invariant-loop-byte : goal.invariant-loop-byte
invariant-loop-byte g l = string_bytes l.out ≡ string_bytes l.fn.out ++ octets_text (take l.byte-index l.bytes)
