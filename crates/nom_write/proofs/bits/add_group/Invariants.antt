use Rattle.std.proofs.Common.{◌≡◌, ◌<◌, ◌+◌, ◌*◌, ◌-◌, take, length}
use Rattle.nom_write.specs.BitForms.{IsPadded}
use Rattle.nom_write.proofs.bits.add_group.Given as goal

-- the bytes so far hold the bits so far; only the last can be padded
abbrev pub invariant-loop-count : goal.invariant-loop-count
invariant-loop-count g l = record {
  all : length l.bytes ≡ 32;
  within : 8 * l.count < length l.bits + 8;
  so_far : IsPadded (take (8 * l.count) l.bits) (take l.count l.bytes);
}

abbrev pub decreases-loop-count : goal.decreases-loop-count
decreases-loop-count g l = length l.bits - 8 * l.count
