use Rattle.std.proofs.Common.{rules, arith, sym, subst}
use Rattle.std.specs.Iterator.{AlwaysYields}
use Rattle.nom_traits.proofs.Walks.{walk_begins, walk_fits, walk_goes_on, walk_stops, walk_ends}
use Rattle.nom_traits.proofs.input.length_before.Goals as goal

pub loop-item-init : goal.loop-item-init
loop-item-init g c =
    let gives = subst (λ s. AlwaysYields g.I.Iter.Iterator.next_gives (λ x. x) s (g.I.Items.model.elements c.args.input.now))
    (sym c.into_iter-item-iterator.ensures.into_iter_gives) c.iter_elements-item-items.ensures.gives in
    (search rules, search rules, walk_begins gives)

pub overflow_add-after : goal.overflow_add-after
overflow_add-after g c =
    let fits = walk_fits c.next.new.self c.in-Some.item c.loop-item.invariant.2 c.in-Some.ensures.steps c.item_len.ensures in
    omega (arith, fits, c.input_len-length.ensures, c.input_len-length.type_inv)

pub returns-then-predicate : goal.returns-then-predicate
returns-then-predicate g c = walk_stops c.next.new.self c.in-Some.item c.loop-item.invariant.2 c.in-Some.ensures.steps c.if-predicate.ensures

pub loop-item-preserved : goal.loop-item-preserved
loop-item-preserved g c = (
  search rules,
  search rules,
  walk_goes_on c.next.new.self c.in-Some.item c.loop-item.invariant.2 c.in-Some.ensures.steps c.item_len.ensures c.if-predicate.ensures,
)

pub returns : goal.returns
returns g c = walk_ends c.next.new.self c.loop-item.invariant.2 c.in-None.ensures.steps
