use Rattle.std.proofs.Common.{◌∙◌, rules, arith, sym, ap, subst}
use Rattle.std.specs.Iterator.{AlwaysYields}
use Rattle.nom_internal.specs.Prelude.{placed}
use Rattle.nom_character_integer.specs.laws.IntegerLaws.{range_of}
use Rattle.nom_character_integer.proofs.Readings.{reading_begins, reading_ends, reading_stops, reading_unfit, reading_goes_on}
use Rattle.nom_character_integer.proofs.integer.number_at.Goals as goal

pub loop-length-init : goal.loop-length-init
loop-length-init g c =
    let whole = placed g.I.Items.model.item_len 0 (g.I.Items.model.elements c.args.input) in
    let gives = subst (λ s. AlwaysYields g.I.IterIndices.Iterator.next_gives (λ x. x) s whole)
    (sym c.into_iter-length-iterator.ensures.into_iter_gives) c.iter_indices-length-items.ensures.gives in
    let zero = ap g.T.Number.value c.zero-value.ensures ∙ g.met.T.Zero.zero_law g.met.T.Integral.exact_law in (
      search rules,
      search rules,
      reading_begins g.I.Items.model g.I.Item.Value.code g.T.Number.value g.T.Number.fits c.args.negative
          g.I.IterIndices.Iterator.next_gives c.args.input c.zero-value.result c.into_iter-length-iterator.result zero
          (g.met.T.FixedWidth.small_fits_law 0 (omega arith)) gives,
    )

pub returns-in-None-digit_of : goal.returns-in-None-digit_of
returns-in-None-digit_of g c =
    reading_stops g.I.Items.model g.I.Item.Value.code g.T.Number.value g.T.Number.fits c.args.negative g.I.IterIndices.Iterator.next_gives
    c.args.input c.loop-length.value _ c.next.new.self c.loop-length.invariant.2 c.in-Some.length c.in-Some.item c.in-Some.ensures.steps
    c.in-None-digit_of.ensures

pub returns-in-None-followed_by : goal.returns-in-None-followed_by
returns-in-None-followed_by g c =
    let reading = c.loop-length.invariant.2 in
    let range = range_of g.T.Number.fits g.T.Number.exact g.met.T.Integral.exact_law g.met.T.FixedWidth.small_fits_law g.T.Number.between_law in
    reading_unfit g.I.Items.model g.I.Item.Value.code g.T.Number.value g.T.Number.fits c.args.negative g.I.IterIndices.Iterator.next_gives
    c.args.input c.loop-length.value _ c.next.new.self reading c.in-Some.length c.in-Some.item c.in-Some.ensures.steps
    c.in-Some-digit_of.ensures.0 range c.in-Some-digit_of.digit c.in-Some-digit_of.ensures.1 (c.in-None-followed_by.ensures _ reading.value_is)

pub loop-length-preserved : goal.loop-length-preserved
loop-length-preserved g c =
    let reading = c.loop-length.invariant.2 in
    let more = c.in-Some-followed_by.ensures _ reading.value_is in (
      search rules,
      search rules,
      reading_goes_on g.I.Items.model g.I.Item.Value.code g.T.Number.value g.T.Number.fits c.args.negative
          g.I.IterIndices.Iterator.next_gives c.args.input c.loop-length.value _ c.next.new.self reading c.in-Some.length c.in-Some.item
          c.in-Some.ensures.steps c.in-Some-digit_of.ensures.0 c.in-Some-digit_of.digit c.in-Some-followed_by.more
          c.in-Some-digit_of.ensures.1 more.1 more.0,
    )

pub returns : goal.returns
returns g c =
    reading_ends g.I.Items.model g.I.Item.Value.code g.T.Number.value g.T.Number.fits c.args.negative g.I.IterIndices.Iterator.next_gives
    c.args.input c.loop-length.value _ c.next.new.self c.loop-length.invariant.2 c.input_len.result c.input_len.ensures
    c.in-None.ensures.steps
