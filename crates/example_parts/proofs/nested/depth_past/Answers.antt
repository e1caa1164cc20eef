use Rattle.std.proofs.Common.{rules, sym, ap, ◌∙◌, subst, refl}
use Rattle.example_parts.proofs.Depths.{IsOnWay, arrives, goes_on}
use Rattle.example_parts.proofs.nested.depth_past.Goals as goal

pub loop-c-init : goal.loop-c-init
loop-c-init c = (
  search rules,
  search rules,
  subst (λ r. IsOnWay c.args.text.now r c.args.depth c.args.depth)
      (sym (ap (λ i. i.rest.now) c.into_iter-c-iterator.ensures.into_iter_gives ∙ c.chars-c-items.ensures.rest)) (record { leads = refl; utf8 = c.utf8.text }),
)

pub loop-c-preserved : goal.loop-c-preserved
loop-c-preserved c = (search rules, search rules, goes_on c.in-Some.c c.loop-c.invariant.2 c.in-Some.ensures.steps.0 c.deeper-past.ensures)

pub returns : goal.returns
returns c = arrives c.loop-c.invariant.2 c.in-None.ensures.steps.0.0
