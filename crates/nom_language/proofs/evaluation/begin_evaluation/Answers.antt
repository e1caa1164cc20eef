use Rattle.nom_operators.specs.helpers.Pending.{HasRead}
use Rattle.nom_operators.specs.Steps.{waiting}
use Rattle.nom_language.proofs.EvaluationShown.{as_term}
use Rattle.nom_language.proofs.evaluation.begin_evaluation.Goals as goal

pub returns-in-Some-clause-read : goal.returns-in-Some-clause-read
returns-in-Some-clause-read g c =
    let read = c.in-Some in
    as_term (λ ss. HasRead (λ x. g.G.Fn.post c.args.fold.now (x, tt)) ss (waiting read.partial.innermost c.begin.new.outer.items) read.partial.value)
    c.term.ensures.prefixes c.term.ensures.operand c.term.ensures.postfixes read.ensures.read
