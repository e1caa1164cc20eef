use Rattle.std.proofs.Common.{◌≡◌, ◌∷◌, ◌++◌, List, map, reverse, length}
use Rattle.nom_operators.specs.OperatorTrees.{Symbol}
use Rattle.nom_operators.specs.OperatorTrees.Symbol.{OfOperand, OfPostfix}
use Rattle.nom_operators.specs.helpers.Pending.{HasRead, WaitsBefore}
use Rattle.nom_operators.specs.Steps.{HasOutermost, waiting}
use Rattle.nom_operators.specs.declared.precedences.Unary.{Unary}
use Rattle.nom_operators.specs.declared.precedences.Binary.{Binary}
use Rattle.nom_operators.proofs.pending.apply_all.Given as goal

abbrev pub invariant-loop-postfix : goal.invariant-loop-postfix
invariant-loop-postfix g l = record {
  read : (ss : List (Symbol (Unary g.row.P.Denot) g.row.O.Denot (Unary g.row.Q.Denot) (Binary g.row.B.Denot))) →
      WaitsBefore (λ x. g.G.Fn.post l.fold (x, tt)) ss (waiting l.fn.innermost l.fn.outer.items) →
      (now : List (Symbol (Unary g.row.P.Denot) g.row.O.Denot (Unary g.row.Q.Denot) (Binary g.row.B.Denot)))
      × HasRead (λ x. g.G.Fn.post l.fold (x, tt)) now (waiting l.inner l.outer.items) l.value
      × (now ++ map OfPostfix (reverse l.postfixes.items) ≡ ss ++ OfOperand l.fn.operand ∷ map OfPostfix l.fn.postfixes.items);
  nested : HasOutermost l.inner l.outer.items;
}

abbrev pub decreases-loop-postfix : goal.decreases-loop-postfix
decreases-loop-postfix g l = length l.postfixes.items
