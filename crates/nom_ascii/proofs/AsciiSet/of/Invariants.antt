use Rattle.std.proofs.Common.{◌≡◌, fold, take}
use Rattle.nom_ascii.specs.Sets.{with_code}
use Rattle.nom_ascii.proofs.AsciiSet.of.Given as goal

abbrev pub invariant-loop-byte : goal.invariant-loop-byte
invariant-loop-byte l = l.mask ≡ fold with_code 0 (take l.byte-index l.text)
