use Rattle.std.proofs.Common.{rules, refl, ap, ◌∷◌}
use Rattle.nom_operators.proofs.waiting.put.Goals as goal

pub returns-then-keep-clause-pushed : goal.returns-then-keep-clause-pushed
returns-then-keep-clause-pushed g c =
    let left = c.close-left.ensures in
    record {
      below = _;
      joined = _;
      joins = left.joined;
      under = left.under;
      stack_is = ap (λ s. (c.close-left.result.0, c.args.operator) ∷ s) (c.keep.ensures.kept (search rules));
      value_is = refl;
    }
