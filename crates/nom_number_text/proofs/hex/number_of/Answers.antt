use Rattle.std.proofs.Common.{rules, arith, ◌+◌, ◌*◌, sym, subst}
use Rattle.std.specs.Iterator.{AlwaysYields}
use Rattle.nom_number_text.proofs.HexDigits.{IsHexRead, hex_begins, hex_ends, hex_fits, hex_goes_on}
use Rattle.nom_number_text.proofs.hex.number_of.Goals as goal

pub loop-item-init : goal.loop-item-init
loop-item-init g c =
    let gives = subst (λ s. AlwaysYields g.I.Iter.Iterator.next_gives (λ x. x) s (g.I.Items.model.elements c.args.digits))
    (sym c.into_iter-item-iterator.ensures.into_iter_gives) c.iter_elements-item-items.ensures.gives in
    (search rules, search rules, hex_begins g.I.Item.Value.code g.I.Iter.Iterator.next_gives (g.I.Items.model.elements c.args.digits) _ gives)

pub overflow_mul-value : goal.overflow_mul-value
overflow_mul-value g c =
    omega (
      arith,
      hex_fits g.I.Item.Value.code g.I.Iter.Iterator.next_gives (g.I.Items.model.elements c.args.digits) c.loop-item.value _ c.next.new.self
          c.loop-item.invariant.2 c.in-Some.item c.in-Some.ensures.steps c.requires,
    )

pub overflow_add-value : goal.overflow_add-value
overflow_add-value g c =
    omega (
      arith,
      c.digit_of-digit.ensures,
      hex_fits g.I.Item.Value.code g.I.Iter.Iterator.next_gives (g.I.Items.model.elements c.args.digits) c.loop-item.value _ c.next.new.self
          c.loop-item.invariant.2 c.in-Some.item c.in-Some.ensures.steps c.requires,
    )

pub loop-item-preserved : goal.loop-item-preserved
loop-item-preserved g c =
    let more = hex_goes_on g.I.Item.Value.code g.I.Iter.Iterator.next_gives (g.I.Items.model.elements c.args.digits) c.loop-item.value _ c.next.new.self
    c.loop-item.invariant.2 c.in-Some.item c.in-Some.ensures.steps in (
      search rules,
      search rules,
      subst
          (λ d. IsHexRead g.I.Item.Value.code g.I.Iter.Iterator.next_gives (g.I.Items.model.elements c.args.digits)
          (16 * c.loop-item.value + d) c.next.new.self) (sym c.digit_of-digit.ensures) more,
    )

pub returns : goal.returns
returns g c = hex_ends g.I.Item.Value.code g.I.Iter.Iterator.next_gives (g.I.Items.model.elements c.args.digits) c.loop-item.value _ c.next.new.self
    c.loop-item.invariant.2 c.in-None.ensures.steps
