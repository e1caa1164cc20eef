use Rattle.std.proofs.Common.{◌≤◌, List, length}
use Rattle.nom_operators.specs.OperatorTrees.{Symbol}
use Rattle.nom_operators.specs.helpers.Pending.{IsEnding}
use Rattle.nom_operators.specs.Steps.{HasOutermost, waiting}
use Rattle.nom_operators.specs.declared.precedences.Unary.{Unary}
use Rattle.nom_operators.specs.declared.precedences.Binary.{Binary}
use Rattle.nom_operators.proofs.pending.end_operands.Given as goal

abbrev pub invariant-loop-innermost : goal.invariant-loop-innermost
invariant-loop-innermost g l = record {
  ended : (ss : List (Symbol (Unary g.row.P.Denot) g.row.O.Denot (Unary g.row.Q.Denot) (Binary g.row.B.Denot))) →
      IsEnding (λ x. g.G.Fn.post l.fold (x, tt)) l.precedence l.from_left ss (waiting l.fn.innermost l.fn.outer.items) l.fn.value →
      IsEnding (λ x. g.G.Fn.post l.fold (x, tt)) l.precedence l.from_left ss (waiting l.innermost l.outer.items) l.value;
  nested : HasOutermost l.innermost l.outer.items;
  fewer : length (waiting l.innermost l.outer.items) ≤ length (waiting l.fn.innermost l.fn.outer.items);
}

abbrev pub decreases-loop-innermost : goal.decreases-loop-innermost
decreases-loop-innermost g l = length (waiting l.innermost l.outer.items)
