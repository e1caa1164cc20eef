use Rattle.std.proofs.Common.{◌≡◌, ◌≤◌, take, ◌-◌, ◌++◌, length}
use Rattle.nom_traits.specs.Bits.{low_bits}
use Rattle.nom_write.proofs.bits.number_bits.Given as goal

-- the bits so far, and those that are left, are all
abbrev pub invariant-loop-done : goal.invariant-loop-done
invariant-loop-done l = record {
  within : l.done ≤ l.count;
  all : length l.bits ≡ 128;
  so_far : take l.done l.bits ++ low_bits (l.count - l.done) l.number ≡ low_bits l.count l.number;
}

abbrev pub decreases-loop-done : goal.decreases-loop-done
decreases-loop-done l = l.count - l.done
