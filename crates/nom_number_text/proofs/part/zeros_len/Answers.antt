use Rattle.std.proofs.Common.{rules, arith, sym, ◌∙◌, subst}
use Rattle.std.specs.Iterator.{AlwaysYields}
use Rattle.nom_number_text.proofs.PartDigits.{passed_fits, zeros_begin, zeros_end, zeros_stopped, zeros_last, zeros_more}
use Rattle.nom_number_text.proofs.part.zeros_len.Goals.{then-as_char-ne48-via-then-as_char-ne48, then-as_char-ne48-via-else-as_char-ne48+then-after-length}
use Rattle.nom_number_text.proofs.part.zeros_len.Goals as goal

pub loop-item-init : goal.loop-item-init
loop-item-init g c =
    let gives = subst (λ s. AlwaysYields g.I.Iter.Iterator.next_gives (λ x. x) s (g.I.Items.model.elements c.args.digits))
    (sym c.into_iter-item-iterator.ensures.into_iter_gives) c.iter_elements-item-items.ensures.gives in (
      search rules,
      search rules,
      zeros_begin g.I.Items.model.item_len g.met.I.Items.lawful.positive g.I.Iter.Iterator.next_gives
          (g.I.Items.model.elements c.args.digits) g.I.Item.Value.code _ gives,
    )

pub overflow_add-after : goal.overflow_add-after
overflow_add-after g c =
    let z = c.loop-item.invariant.2 in
    let fits = passed_fits g.I.Items.model.item_len g.met.I.Items.lawful.positive g.I.Iter.Iterator.next_gives (g.I.Items.model.elements c.args.digits)
    c.loop-item.place _ c.next.new.self z.before c.in-Some.item c.in-Some.ensures.steps c.item_len.result c.item_len.ensures in
    omega (arith, fits, c.input_len-length.ensures, c.input_len-length.type_inv)

pub returns-then-as_char-ne48 : goal.returns-then-as_char-ne48
returns-then-as_char-ne48 g c =
    let z = c.loop-item.invariant.2 in
    let stopped = zeros_stopped g.I.Items.model.item_len g.met.I.Items.lawful.positive g.I.Iter.Iterator.next_gives (g.I.Items.model.elements c.args.digits)
    g.I.Item.Value.code c.loop-item.place _ c.next.new.self z c.in-Some.item c.in-Some.ensures.steps in
    let last = zeros_last g.I.Items.model.item_len g.met.I.Items.lawful.positive g.I.Iter.Iterator.next_gives (g.I.Items.model.elements c.args.digits)
    g.I.Item.Value.code c.loop-item.place _ c.next.new.self z c.in-Some.item c.in-Some.ensures.steps c.item_len.result c.item_len.ensures in
    elim c.then-as_char-ne48.branch [
      | then-as_char-ne48-via-then-as_char-ne48 w ↦ stopped (λ e. w.if-as_char-ne48.true (c.as_char.ensures ∙ e))
      | then-as_char-ne48-via-else-as_char-ne48+then-after-length w ↦ last (w.if-after-length.true ∙ c.input_len-length.ensures)
    ]

pub loop-item-preserved : goal.loop-item-preserved
loop-item-preserved g c =
    let z = c.loop-item.invariant.2 in (
      search rules,
      search rules,
      zeros_more g.I.Items.model.item_len g.met.I.Items.lawful.positive g.I.Iter.Iterator.next_gives
          (g.I.Items.model.elements c.args.digits) g.I.Item.Value.code c.loop-item.place _ c.next.new.self z c.in-Some.item c.in-Some.ensures.steps
          c.item_len.result c.item_len.ensures (sym c.as_char.ensures ∙ c.if-as_char-ne48.false)
          (λ e. c.if-after-length.false (e ∙ sym c.input_len-length.ensures)),
    )

pub returns : goal.returns
returns g c = zeros_end g.I.Items.model.item_len g.met.I.Items.lawful.positive g.I.Iter.Iterator.next_gives (g.I.Items.model.elements c.args.digits)
    g.I.Item.Value.code c.loop-item.place _ c.next.new.self c.loop-item.invariant.2 c.in-None.ensures.steps
