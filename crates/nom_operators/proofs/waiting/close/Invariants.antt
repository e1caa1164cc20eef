use Rattle.std.proofs.Common.{◌≡◌, ◌≤◌, vec_len, vec_capacity, length}
use Rattle.nom_operators.specs.Closes.{Closes}
use Rattle.nom_operators.specs.Groups.{groups_left}
use Rattle.nom_operators.specs.Steps.{HasOutermost, Joined, waiting}
use Rattle.nom_operators.specs.declared.operation.Operation.TheVariants.{Binary}
use Rattle.nom_operators.proofs.waiting.close.Given as goal

abbrev pub invariant-loop-innermost : goal.invariant-loop-innermost
invariant-loop-innermost g l = record {
  joined : Joined (λ x c y z. g.G.Fn.post l.fold (Binary x c.1 y, tt) z) (λ c. Closes (groups_left l.levels) l.level c.0)
      (waiting l.fn.innermost l.fn.outer.items) l.fn.value (waiting l.innermost l.outer.items) l.value;
  nested : HasOutermost l.innermost l.outer.items;
  capacity : vec_capacity l.outer ≡ vec_capacity l.fn.outer;
  fewer : vec_len l.outer ≤ vec_len l.fn.outer;
}

abbrev pub decreases-loop-innermost : goal.decreases-loop-innermost
decreases-loop-innermost g l = length (waiting l.innermost l.outer.items)
