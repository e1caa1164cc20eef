use Rattle.std.proofs.Common.{rules, sym, subst}
use Rattle.std.specs.Iterator.{AlwaysYields}
use Rattle.nom_traits.specs.Input.{placed}
use Rattle.nom_traits.proofs.PlaceWalks.{passing_begins, passing_goes_on, passing_stops, passing_ends}
use Rattle.nom_traits.proofs.input.first_place.Goals as goal

pub loop-place-init : goal.loop-place-init
loop-place-init g c =
    let whole = placed g.I.Items.model.item_len 0 (g.I.Items.model.elements c.args.input.now) in
    let gives = subst (λ s. AlwaysYields g.I.IterIndices.Iterator.next_gives (λ x. x) s whole)
    (sym c.into_iter-place-iterator.ensures.into_iter_gives) c.iter_indices-place-items.ensures.gives in
    (search rules, search rules, passing_begins gives)

pub returns-then-predicate : goal.returns-then-predicate
returns-then-predicate g c = passing_stops c.next.new.self c.in-Some.item c.loop-place.invariant.2 c.in-Some.ensures.steps c.if-predicate.ensures

pub loop-place-preserved : goal.loop-place-preserved
loop-place-preserved g c = (
  search rules,
  search rules,
  passing_goes_on c.next.new.self c.in-Some.item c.loop-place.invariant.2 c.in-Some.ensures.steps c.if-predicate.ensures,
)

pub returns : goal.returns
returns g c = passing_ends c.next.new.self c.loop-place.invariant.2 c.in-None.ensures.steps
