use Rattle.std.proofs.Common.{rules, arith, sym, subst, drop, ◌^◌, ◌<◌}
use Rattle.std.specs.Iterator.{AlwaysYields}
use Rattle.std.proofs.Math.Pow.{pow_mono}
use Rattle.nom_internal.specs.Prelude.{all_bits}
use Rattle.nom_bits.proofs.Spellings.{begins, ends, all_read, part_below, goes_on, total_below}
use Rattle.nom_bits.proofs.field.spelling.Goals as goal

pub loop-byte-init : goal.loop-byte-init
loop-byte-init g c =
    let gives = subst (λ s. AlwaysYields g.I.Iter.Iterator.next_gives (λ x. x) s (g.I.Items.model.elements c.args.start.0))
    (sym c.into_iter-byte-iterator.ensures.into_iter_gives) c.iter_elements-byte-items.ensures.gives in (
      search rules,
      search rules,
      begins g.I.Iter.Iterator.next_gives (g.I.Items.model.elements c.args.start.0) c.args.start.1 c.args.count _ gives
          c.requires.offset c.requires.within,
    )

pub returns-then-left-eq0-clause-range : goal.returns-then-left-eq0-clause-range
returns-then-left-eq0-clause-range g c =
    let whole = all_read g.I.Iter.Iterator.next_gives _ _ _ _ _ c.next.new.self c.loop-byte.invariant.2 c.if-left-eq0.true in
    subst (λ n. n < 2 ^ c.args.count) (sym whole)
    (total_below c.args.count (drop c.args.start.1 (all_bits (g.I.Items.model.elements c.args.start.0))) c.requires.within)

pub extended-value-requires-clause-fits : goal.extended-value-requires-clause-fits
extended-value-requires-clause-fits g c =
    let below = total_below c.args.count (drop c.args.start.1 (all_bits (g.I.Items.model.elements c.args.start.0))) c.requires.within in
    part_below g.I.Iter.Iterator.next_gives _ _ _ _ _ c.next.new.self c.loop-byte.invariant.2 c.in-Some.byte c.min-width.result c.in-Some.ensures.steps
    (omega (arith, c.if-left-eq0.false)) c.min-width.ensures (omega (arith, below, pow_mono {i = c.args.count} {j = 128} c.requires.count))

pub loop-byte-preserved : goal.loop-byte-preserved
loop-byte-preserved g c = (
  search rules,
  search rules,
  goes_on g.I.Iter.Iterator.next_gives _ _ _ _ _ c.next.new.self c.loop-byte.invariant.2 c.in-Some.byte
      c.min-width.result c.in-Some.ensures.steps (omega (arith, c.if-left-eq0.false)) c.min-width.ensures c.extended-value.result c.extended-value.ensures,
)

pub returns-clause-number : goal.returns-clause-number
returns-clause-number g c = ends g.I.Iter.Iterator.next_gives _ _ _ _ _ c.next.new.self c.loop-byte.invariant.2 c.in-None.ensures.steps

pub returns-clause-range : goal.returns-clause-range
returns-clause-range g c =
    let whole = ends g.I.Iter.Iterator.next_gives _ _ _ _ _ c.next.new.self c.loop-byte.invariant.2 c.in-None.ensures.steps in
    subst (λ n. n < 2 ^ c.args.count) (sym whole)
    (total_below c.args.count (drop c.args.start.1 (all_bits (g.I.Items.model.elements c.args.start.0))) c.requires.within)
