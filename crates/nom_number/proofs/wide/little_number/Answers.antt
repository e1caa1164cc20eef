use Rattle.std.proofs.Common.{rules, arith, ◌+◌, sym, subst}
use Rattle.std.specs.Iterator.{AlwaysYields}
use Rattle.nom_number.proofs.Sums.{IsSummed, begins, ends, one_left, little_fits, little_goes_on}
use Rattle.nom_number.proofs.wide.little_number.Goals as goal

pub loop-byte-init : goal.loop-byte-init
loop-byte-init g c =
    let gives = subst (λ s. AlwaysYields g.I.Iter.Iterator.next_gives (λ x. x) s (g.I.Items.model.elements c.args.bytes))
    (sym c.into_iter-byte-iterator.ensures.into_iter_gives) c.iter_elements-byte-items.ensures.gives in
    (search rules, search rules, begins _ g.I.Iter.Iterator.next_gives (g.I.Items.model.elements c.args.bytes) _ gives)

pub overflow_add-value : goal.overflow_add-value
overflow_add-value g c =
    let r = c.loop-byte.invariant.2 in
    omega (
      arith,
      c.at_place-value.ensures.value,
      little_fits g.I.Iter.Iterator.next_gives (g.I.Items.model.elements c.args.bytes) c.loop-byte.place c.loop-byte.value _ c.next.new.self r
          c.in-Some.byte c.at_place-value.ensures.range c.in-Some.ensures.steps c.requires,
    )

pub at_place-value-requires : goal.at_place-value-requires
at_place-value-requires g c =
    let left = one_left _ g.I.Iter.Iterator.next_gives (g.I.Items.model.elements c.args.bytes) c.loop-byte.place c.loop-byte.value _ c.next.new.self
    c.loop-byte.invariant.2 c.in-Some.byte c.in-Some.ensures.steps in
    omega (arith, c.requires, left)

pub loop-byte-preserved : goal.loop-byte-preserved
loop-byte-preserved g c =
    let r = c.loop-byte.invariant.2 in (
      search rules,
      search rules,
      subst (λ m. IsSummed _ g.I.Iter.Iterator.next_gives (g.I.Items.model.elements c.args.bytes) (c.loop-byte.place + 1)
          (c.loop-byte.value + m) c.next.new.self) (sym c.at_place-value.ensures.value)
          (little_goes_on g.I.Iter.Iterator.next_gives (g.I.Items.model.elements c.args.bytes) c.loop-byte.place c.loop-byte.value _ c.next.new.self r
          c.in-Some.byte c.at_place-value.ensures.range c.in-Some.ensures.steps),
    )

pub returns-clause-value : goal.returns-clause-value
returns-clause-value g c = (ends _ g.I.Iter.Iterator.next_gives (g.I.Items.model.elements c.args.bytes) c.loop-byte.place c.loop-byte.value _
    c.next.new.self c.loop-byte.invariant.2 c.in-None.ensures.steps).0

pub returns-clause-bits : goal.returns-clause-bits
returns-clause-bits g c = (ends _ g.I.Iter.Iterator.next_gives (g.I.Items.model.elements c.args.bytes) c.loop-byte.place c.loop-byte.value _
    c.next.new.self c.loop-byte.invariant.2 c.in-None.ensures.steps).1
