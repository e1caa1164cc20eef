use Rattle.std.proofs.Common.{rules, arith, ◌*◌, ◌+◌, sym, subst}
use Rattle.std.specs.Iterator.{AlwaysYields}
use Rattle.nom_number.proofs.Sums.{IsSummed, begins, ends, big_fits, big_goes_on}
use Rattle.nom_number.proofs.wide.big_number.Goals as goal

pub loop-byte-init : goal.loop-byte-init
loop-byte-init g c =
    let gives = subst (λ s. AlwaysYields g.I.Iter.Iterator.next_gives (λ x. x) s (g.I.Items.model.elements c.args.bytes))
    (sym c.into_iter-byte-iterator.ensures.into_iter_gives) c.iter_elements-byte-items.ensures.gives in
    (search rules, search rules, (0, begins _ g.I.Iter.Iterator.next_gives (g.I.Items.model.elements c.args.bytes) _ gives))

pub overflow_add-value : goal.overflow_add-value
overflow_add-value g c =
    let r = c.loop-byte.invariant.2 in
    omega (
      arith,
      c.widened-low.ensures.value,
      big_fits g.I.Iter.Iterator.next_gives (g.I.Items.model.elements c.args.bytes) r.0 c.loop-byte.value _ c.next.new.self r.1 c.in-Some.byte
          c.widened-low.ensures.range c.in-Some.ensures.steps c.requires,
    )

pub overflow_mul-value : goal.overflow_mul-value
overflow_mul-value g c =
    let r = c.loop-byte.invariant.2 in
    omega (
      arith,
      c.widened-low.ensures.value,
      big_fits g.I.Iter.Iterator.next_gives (g.I.Items.model.elements c.args.bytes) r.0 c.loop-byte.value _ c.next.new.self r.1 c.in-Some.byte
          c.widened-low.ensures.range c.in-Some.ensures.steps c.requires,
    )

pub loop-byte-preserved : goal.loop-byte-preserved
loop-byte-preserved g c =
    let r = c.loop-byte.invariant.2 in (
      search rules,
      search rules,
      (
        r.0 + 1,
        subst (λ m. IsSummed _ g.I.Iter.Iterator.next_gives (g.I.Items.model.elements c.args.bytes) (r.0 + 1)
            (256 * c.loop-byte.value + m) c.next.new.self) (sym c.widened-low.ensures.value)
            (big_goes_on g.I.Iter.Iterator.next_gives (g.I.Items.model.elements c.args.bytes) r.0 c.loop-byte.value _ c.next.new.self r.1 c.in-Some.byte
            c.widened-low.ensures.range c.in-Some.ensures.steps),
      ),
    )

pub returns-clause-value : goal.returns-clause-value
returns-clause-value g c =
    let r = c.loop-byte.invariant.2 in
    (ends _ g.I.Iter.Iterator.next_gives (g.I.Items.model.elements c.args.bytes) r.0 c.loop-byte.value _ c.next.new.self r.1 c.in-None.ensures.steps).0

pub returns-clause-bits : goal.returns-clause-bits
returns-clause-bits g c =
    let r = c.loop-byte.invariant.2 in
    (ends _ g.I.Iter.Iterator.next_gives (g.I.Items.model.elements c.args.bytes) r.0 c.loop-byte.value _ c.next.new.self r.1 c.in-None.ensures.steps).1
