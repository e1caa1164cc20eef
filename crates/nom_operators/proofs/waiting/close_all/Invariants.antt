use Rattle.std.proofs.Common.{length}
use Rattle.nom_operators.specs.Steps.{HasOutermost, Joined, waiting}
use Rattle.nom_operators.specs.declared.operation.Operation.TheVariants.{Binary}
use Rattle.nom_operators.proofs.waiting.close_all.Given as goal

abbrev pub invariant-loop-innermost : goal.invariant-loop-innermost
invariant-loop-innermost g l = record {
  joined : Joined (λ x c y z. g.G.Fn.post l.fold (Binary x c.1 y, tt) z) (λ _. Unit {0})
      (waiting l.fn.held.innermost l.fn.outer.items) l.fn.held.value (waiting l.innermost l.outer.items) l.value;
  nested : HasOutermost l.innermost l.outer.items;
}

abbrev pub decreases-loop-innermost : goal.decreases-loop-innermost
decreases-loop-innermost g l = length (waiting l.innermost l.outer.items)
