use Rattle.std.proofs.Common.{◌≡◌, map, take}
use Rattle.nom_traits.specs.Lanes.{nearest}
use Rattle.nom_traits.proofs.lanes.nearest_first.Given as goal

abbrev pub invariant-loop-k : goal.invariant-loop-k
invariant-loop-k l = l.nearest ≡ map (nearest (take l.k l.list)) l.block
