use Rattle.std.proofs.Common.{rules}
use Rattle.nom_operators.specs.Evaluations.{term_symbols}
use Rattle.nom_operators.specs.Prefixes.{prefixes_in}
use Rattle.nom_operators.proofs.PendingShown.{if_some, operator_waits}
use Rattle.nom_operators.proofs.pending.put_term.Goals as goal

pub returns-then-keep-clause-read : goal.returns-then-keep-clause-read
returns-then-keep-clause-read g c =
    let left = c.end_operands-left in
    if_some _ _ c.read_term.result (λ r f ss h. operator_waits (λ x. g.G.Fn.post c.args.fold.now (x, tt)) ss _ _ _ _ _ left.result.0 c.args.operator
    c.from_left.result (term_symbols (prefixes_in c.args.term.prefixes) c.args.term.operand c.args.term.postfixes.items) r.value c.from_left.ensures h
    left.ensures.ended left.ensures.none (c.keep.ensures.kept (search rules)) f) c.read_term.ensures.read
