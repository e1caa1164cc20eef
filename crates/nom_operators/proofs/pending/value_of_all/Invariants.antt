use Rattle.std.proofs.Common.{List, length}
use Rattle.nom_operators.specs.OperatorTrees.{Symbol}
use Rattle.nom_operators.specs.helpers.Pending.{HasRead, IsPartlyRead}
use Rattle.nom_operators.specs.Steps.{HasOutermost, waiting}
use Rattle.nom_operators.specs.declared.precedences.Unary.{Unary}
use Rattle.nom_operators.specs.declared.precedences.Binary.{Binary}
use Rattle.nom_operators.proofs.pending.value_of_all.Given as goal

abbrev pub invariant-loop-innermost : goal.invariant-loop-innermost
invariant-loop-innermost g l = record {
  read : (ss : List (Symbol (Unary g.row.P.Denot) g.row.O.Denot (Unary g.row.Q.Denot) (Binary g.row.B.Denot))) →
      HasRead (λ x. g.G.Fn.post l.fold (x, tt)) ss (waiting l.fn.partial.innermost l.fn.outer.items) l.fn.partial.value →
      IsPartlyRead (λ x. g.G.Fn.post l.fold (x, tt)) (λ _. Unit {0}) ss (waiting l.innermost l.outer.items) l.value;
  nested : HasOutermost l.innermost l.outer.items;
}

abbrev pub decreases-loop-innermost : goal.decreases-loop-innermost
decreases-loop-innermost g l = length (waiting l.innermost l.outer.items)
