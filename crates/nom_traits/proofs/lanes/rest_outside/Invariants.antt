use Rattle.std.proofs.Common.{take}
use Rattle.std.specs.List.{All}
use Rattle.nom_traits.specs.Classes.{IsIn}
use Rattle.nom_traits.proofs.lanes.rest_outside.Given as goal

abbrev pub invariant-loop-place : goal.invariant-loop-place
invariant-loop-place l = All (IsIn l.set) (take l.place l.bytes)
