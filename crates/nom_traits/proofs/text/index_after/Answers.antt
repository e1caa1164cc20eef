use Rattle.std.proofs.Common.{[], refl, subst, sym}
use Rattle.nom_traits.proofs.TextAfter.{IsAfter, after_end, after_next, after_rest, after_start}
use Rattle.nom_traits.proofs.text.index_after.Goals as goal

pub loop-left-init : goal.loop-left-init
loop-left-init c =
    let start = after_start c.args.text.now c.args.count c.known.ensures.0 in
    ([], 0, subst (λ r. IsAfter c.args.text.now r [] 0 c.args.count c.args.count) (sym c.chars-rest.ensures.rest) start)

pub returns-in-None : goal.returns-in-None
returns-in-None c = (after_end c.loop-left.invariant.2 c.in-None.ensures.steps.0.0 c.loop-left-test.true, refl)

pub loop-left-preserved : goal.loop-left-preserved
loop-left-preserved c = (_, _, after_next _ c.loop-left.invariant.2 c.in-Some.ensures.steps.0 refl c.loop-left-test.true)

pub returns : goal.returns
returns c = after_rest c.loop-left.invariant.2 c.loop-left-test.false c.as_str.ensures
