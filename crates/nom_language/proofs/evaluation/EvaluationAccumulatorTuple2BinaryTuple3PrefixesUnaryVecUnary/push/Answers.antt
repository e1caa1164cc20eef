use Rattle.std.proofs.Common.{rules, ◌∷◌, ◌++◌, refl}
use Rattle.nom_operators.specs.OperatorTrees.Symbol.{OfBinary}
use Rattle.nom_operators.specs.helpers.Pending.{HasRead}
use Rattle.nom_operators.specs.Steps.{waiting}
use Rattle.nom_language.proofs.EvaluationShown.{as_term, that_is}
use Rattle.nom_language.proofs.evaluation.EvaluationAccumulatorTuple2BinaryTuple3PrefixesUnaryVecUnary.push.Goals as goal

pub returns-in-Some-put_term-clause-kept : goal.returns-in-Some-put_term-clause-kept
returns-in-Some-put_term-clause-kept g c =
    let self = c.args.self.now in
    let put = c.in-Some-put_term in
    record {
      fold_is = refl;
      reads = λ ss h. as_term (λ ts. HasRead (λ x. g.G.Fn.post self.fold.now (x, tt)) (ss ++ OfBinary c.args.item.0 ∷ ts)
          (waiting put.new.innermost c.put_term.new.outer.items) put.new.value) c.term.ensures.prefixes c.term.ensures.operand c.term.ensures.postfixes
          (put.ensures.read ss (that_is (λ r. HasRead (λ x. g.G.Fn.post self.fold.now (x, tt)) ss (waiting r.innermost self.waiting.outer.items) r.value)
          self.waiting.partial c.in-Some.partial (search rules) h));
    }
