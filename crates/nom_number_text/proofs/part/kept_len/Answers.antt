use Rattle.std.proofs.Common.{rules, arith, sym, ◌∙◌, subst}
use Rattle.std.specs.Iterator.{AlwaysYields}
use Rattle.nom_number_text.proofs.PartDigits.{passed_fits, kept_begin, kept_end, kept_first, kept_more, kept_less}
use Rattle.nom_number_text.proofs.part.kept_len.Goals.{then-kept-eq0-via-then-kept-eq0, then-kept-eq0-via-else-kept-eq0+then-as_char-ne48}
use Rattle.nom_number_text.proofs.part.kept_len.Goals as goal

pub loop-item-init : goal.loop-item-init
loop-item-init g c =
    let gives = subst (λ s. AlwaysYields g.I.Iter.Iterator.next_gives (λ x. x) s (g.I.Items.model.elements c.args.digits))
    (sym c.into_iter-item-iterator.ensures.into_iter_gives) c.iter_elements-item-items.ensures.gives in (
      search rules,
      search rules,
      kept_begin g.I.Items.model.item_len g.met.I.Items.lawful.positive g.I.Iter.Iterator.next_gives
          (g.I.Items.model.elements c.args.digits) g.I.Item.Value.code _ gives,
    )

pub overflow_add-place : goal.overflow_add-place
overflow_add-place g c =
    let z = c.loop-item.invariant.2 in
    let fits = passed_fits g.I.Items.model.item_len g.met.I.Items.lawful.positive g.I.Iter.Iterator.next_gives (g.I.Items.model.elements c.args.digits)
    c.loop-item.place _ c.next.new.self z.before c.in-Some.item c.in-Some.ensures.steps c.item_len-place.result c.item_len-place.ensures in
    omega (arith, fits, c.input_len-length.ensures, c.input_len-length.type_inv)

pub loop-item-preserved-in-loop-item : goal.loop-item-preserved-in-loop-item
loop-item-preserved-in-loop-item g c =
    let z = c.loop-item.invariant.2 in
    let first = kept_first g.I.Items.model.item_len g.met.I.Items.lawful.positive g.I.Iter.Iterator.next_gives (g.I.Items.model.elements c.args.digits)
    g.I.Item.Value.code c.loop-item.place c.loop-item.kept _ c.next.new.self z c.in-Some.item c.in-Some.ensures.steps c.item_len-place.result
    c.item_len-place.ensures in
    let more = kept_more g.I.Items.model.item_len g.met.I.Items.lawful.positive g.I.Iter.Iterator.next_gives (g.I.Items.model.elements c.args.digits)
    g.I.Item.Value.code c.loop-item.place c.loop-item.kept _ c.next.new.self z c.in-Some.item c.in-Some.ensures.steps c.item_len-place.result
    c.item_len-place.ensures in (
      search rules,
      search rules,
      elim c.then-kept-eq0.branch [
        | then-kept-eq0-via-then-kept-eq0 w ↦ first w.if-kept-eq0.true
        | then-kept-eq0-via-else-kept-eq0+then-as_char-ne48 w ↦ more (λ e. w.if-as_char-ne48.true (w.as_char.ensures ∙ e))
      ],
    )

pub loop-item-preserved : goal.loop-item-preserved
loop-item-preserved g c =
    let z = c.loop-item.invariant.2 in (
      search rules,
      search rules,
      kept_less g.I.Items.model.item_len g.met.I.Items.lawful.positive g.I.Iter.Iterator.next_gives
          (g.I.Items.model.elements c.args.digits) g.I.Item.Value.code c.loop-item.place c.loop-item.kept _ c.next.new.self z c.in-Some.item
          c.in-Some.ensures.steps c.item_len-place.result c.item_len-place.ensures c.if-kept-eq0.false (sym c.as_char.ensures ∙ c.if-as_char-ne48.false),
    )

pub returns : goal.returns
returns g c = kept_end g.I.Items.model.item_len g.met.I.Items.lawful.positive g.I.Iter.Iterator.next_gives (g.I.Items.model.elements c.args.digits)
    g.I.Item.Value.code c.loop-item.place c.loop-item.kept _ c.next.new.self c.loop-item.invariant.2 c.in-None.ensures.steps
