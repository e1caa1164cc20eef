use Rattle.std.proofs.Common.{◌≡◌, refl, rules}
use native.Mathlib.Bridge.{le_prop}
use Rattle.example_formats.proofs.Parts.{inside_more, sum_of_any}
use Rattle.example_formats.proofs.arithmetic.+fn-sum-inside+sum.Goals as goal

pub inside-returns-else-depth-eq0 : goal.inside-returns-else-depth-eq0
inside-returns-else-depth-eq0 t c =
    let some : c.captures.depth ≡ 0 → ⊥ = search rules in
    inside_more c.captures.depth c.args.text c.sum.result some c.sum.ensures

pub sum_over-requires : goal.sum_over-requires
sum_over-requires t c κs = ((refl, tt), λ i known. (search rules, tt))

pub returns : goal.returns
returns t c = sum_of_any c.args.depth _ c.args.input c.sum_over.result c.sum_over.ensures (λ i. hlevel le_prop) (λ i. (search rules, tt))
