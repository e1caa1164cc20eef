use Rattle.std.proofs.Common.{rules, arith, sym, subst}
use Rattle.std.specs.Iterator.{AlwaysYields}
use Rattle.nom_character_integer.proofs.Counted.{passing_begins, passing_ends, passing_full, passing_length, passing_stops, passing_too_great, passing_goes_on}
use Rattle.nom_character_integer.proofs.bounded.run_at.Goals as goal

pub loop-item-init : goal.loop-item-init
loop-item-init g c =
    let gives = subst (λ s. AlwaysYields g.I.Iter.Iterator.next_gives (λ x. x) s (g.I.Items.model.elements c.args.input))
    (sym c.into_iter-item-iterator.ensures.into_iter_gives) c.iter_elements-item-items.ensures.gives in (
      search rules,
      search rules,
      passing_begins g.I.Items.model g.I.Item.Value.code c.args.base c.args.most c.args.greatest g.I.Iter.Iterator.next_gives c.args.input _ gives,
      omega (arith, c.if-most-eq0.false),
    )

pub returns-in-None-digit_of : goal.returns-in-None-digit_of
returns-in-None-digit_of g c =
    passing_stops g.I.Items.model g.I.Item.Value.code c.args.base c.args.most c.args.greatest g.I.Iter.Iterator.next_gives c.args.input
    c.loop-item.value c.loop-item.length
    c.loop-item.count _ c.loop-item.invariant.2 c.next.new.self c.in-Some.item c.in-Some.ensures.steps c.in-None-digit_of.ensures

pub returns-in-None-followed_by : goal.returns-in-None-followed_by
returns-in-None-followed_by g c =
    passing_too_great g.I.Items.model g.I.Item.Value.code c.args.base c.args.most c.args.greatest g.I.Iter.Iterator.next_gives c.args.input
    c.loop-item.value c.loop-item.length
    c.loop-item.count _ c.loop-item.invariant.2 c.next.new.self c.in-Some.item c.in-Some.ensures.steps c.in-Some-digit_of.ensures.0
    c.loop-item.invariant.3 c.in-Some-digit_of.digit c.in-Some-digit_of.ensures.1 c.in-None-followed_by.ensures

pub overflow_add-length : goal.overflow_add-length
overflow_add-length g c =
    let whole = passing_length g.I.Items.model g.I.Item.Value.code c.args.base c.args.most c.args.greatest g.I.Iter.Iterator.next_gives c.args.input
    c.loop-item.value c.loop-item.length
    c.loop-item.count _ c.loop-item.invariant.2 c.next.new.self c.in-Some.item c.in-Some.ensures.steps c.item_len-length.result
    c.item_len-length.ensures in
    search (rules, whole)

pub returns-then-count-most : goal.returns-then-count-most
returns-then-count-most g c =
    let longer = passing_goes_on g.I.Items.model g.I.Item.Value.code c.args.base c.args.most c.args.greatest g.I.Iter.Iterator.next_gives
    c.args.input c.loop-item.value c.loop-item.length
    c.loop-item.count _ c.loop-item.invariant.2 c.next.new.self c.in-Some.item c.in-Some.ensures.steps c.in-Some-digit_of.ensures.0
    c.loop-item.invariant.3 c.in-Some-digit_of.digit c.in-Some-followed_by.more c.item_len-length.result c.in-Some-digit_of.ensures.1
    c.in-Some-followed_by.ensures.0 c.in-Some-followed_by.ensures.1 c.item_len-length.ensures in
    passing_full g.I.Items.model g.I.Item.Value.code c.args.base c.args.most c.args.greatest g.I.Iter.Iterator.next_gives c.args.input _ _ _ _ longer
    c.if-count-most.true

pub loop-item-preserved : goal.loop-item-preserved
loop-item-preserved g c = (
  search rules,
  search rules,
  passing_goes_on g.I.Items.model g.I.Item.Value.code c.args.base c.args.most c.args.greatest g.I.Iter.Iterator.next_gives c.args.input
      c.loop-item.value c.loop-item.length
      c.loop-item.count _ c.loop-item.invariant.2 c.next.new.self c.in-Some.item c.in-Some.ensures.steps c.in-Some-digit_of.ensures.0
      c.loop-item.invariant.3 c.in-Some-digit_of.digit c.in-Some-followed_by.more c.item_len-length.result c.in-Some-digit_of.ensures.1
      c.in-Some-followed_by.ensures.0 c.in-Some-followed_by.ensures.1 c.item_len-length.ensures,
  omega (arith, c.loop-item.invariant.3, c.if-count-most.false),
)

pub returns : goal.returns
returns g c = passing_ends g.I.Items.model g.I.Item.Value.code c.args.base c.args.most c.args.greatest g.I.Iter.Iterator.next_gives c.args.input
    c.loop-item.value c.loop-item.length
    c.loop-item.count _ c.loop-item.invariant.2 c.next.new.self c.in-None.ensures.steps c.loop-item.invariant.3
