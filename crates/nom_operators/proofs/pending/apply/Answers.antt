use Rattle.std.proofs.Common.{◌≡◌, true}
use Rattle.nom_operators.specs.OperatorTrees.{ends_operand}
use Rattle.nom_operators.proofs.PendingShown.{any_edge, postfix_read}
use Rattle.nom_operators.proofs.pending.apply.Goals as goal

pub returns-clause-read : goal.returns-clause-read
returns-clause-read g c = λ ss h.
    let under = c.end_operands-operand.ensures in
    postfix_read (λ x. g.G.Fn.post c.args.fold.now (x, tt)) ss _ c.end_operands-operand.result.0 c.fold_postfix.result c.args.postfix
    (under.ended ss (any_edge (λ x. g.G.Fn.post c.args.fold.now (x, tt)) (λ j. ends_operand c.args.postfix.precedence true j ≡ true) ss _ _ h))
    under.none c.fold_postfix.ensures
