use Rattle.std.proofs.Common.{◌≡◌, take}
use Rattle.nom_traits.proofs.compare.compare_short.Given as goal

abbrev pub invariant-loop-i : goal.invariant-loop-i
invariant-loop-i l = take l.i l.bytes ≡ take l.i l.tag
