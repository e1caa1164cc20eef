use Rattle.std.proofs.Common.{◌≡◌, drop}
use Rattle.nom_traits.specs.Bits.{spelled, spelled_after}
use Rattle.nom_write.proofs.bits.padded_byte.Given as goal

-- the bits that are left, after the number so far, spell what all do
abbrev pub invariant-loop-bit : goal.invariant-loop-bit
invariant-loop-bit l = spelled_after l.value (drop l.bit-index l.bits) ≡ spelled l.bits
