use Rattle.nom_operators.specs.helpers.Pending.{HasRead}
use Rattle.nom_operators.specs.Steps.{waiting}
use Rattle.nom_language.proofs.EvaluationShown.{that_is}
use Rattle.nom_language.proofs.evaluation.value_of.Goals as goal

pub returns : goal.returns
returns g c = λ ss h.
    let self = c.args.evaluation in
    c.value_of_all.ensures ss (that_is (λ r. HasRead (λ x. g.G.Fn.post self.fold.now (x, tt)) ss (waiting r.innermost self.waiting.outer.items) r.value)
    self.waiting.partial c.in-Some.partial c.in-Some.is h)
