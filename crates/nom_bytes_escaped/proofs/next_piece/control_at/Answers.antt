use Rattle.std.proofs.Common.{sym, ◌∙◌, ◌≡◌}
use Rattle.nom_bytes_escaped.proofs.Controls.{first_given, none_given, stands_last, stands_before}
use Rattle.nom_bytes_escaped.proofs.next_piece.control_at.Goals as goal

pub returns-then-input_len-eq0 : goal.returns-then-input_len-eq0
returns-then-input_len-eq0 g c =
    let first = first_given g.I.Iter.Iterator.next_gives c.iter_elements.result c.next.new.self c.in-Some.item (g.I.Items.model.elements c.args.input)
    c.iter_elements.ensures.gives c.in-Some.ensures.steps in
    stands_last _ g.met.I.Items.lawful (λ x. g.I.Item.Value.code x ≡ c.args.control_char) first.1
    (sym c.as_char.ensures ∙ c.if-as_char-control_char.true) c.in-Ok.ensures c.take_from-after.ensures c.input_len.ensures c.if-input_len-eq0.true

pub returns-in-Ok : goal.returns-in-Ok
returns-in-Ok g c =
    let first = first_given g.I.Iter.Iterator.next_gives c.iter_elements.result c.next.new.self c.in-Some.item (g.I.Items.model.elements c.args.input)
    c.iter_elements.ensures.gives c.in-Some.ensures.steps in
    stands_before _ g.met.I.Items.lawful (λ x. g.I.Item.Value.code x ≡ c.args.control_char) first.1
    (sym c.as_char.ensures ∙ c.if-as_char-control_char.true) c.in-Ok.ensures c.take_from-after.ensures c.input_len.ensures c.if-input_len-eq0.false

pub returns-in-Some-2 : goal.returns-in-Some-2
returns-in-Some-2 g c =
    let first = first_given g.I.Iter.Iterator.next_gives c.iter_elements.result c.next.new.self c.in-Some.item (g.I.Items.model.elements c.args.input)
    c.iter_elements.ensures.gives c.in-Some.ensures.steps in
    record { item = c.in-Some.item; items = first.0; elements_are = first.1; is_other = λ h. c.if-as_char-control_char.false (c.as_char.ensures ∙ h) }

pub unreachable-requires-in-None : goal.unreachable-requires-in-None
unreachable-requires-in-None g c =
    none_given g.I.Iter.Iterator.next_gives c.iter_elements.result c.next.new.self (g.I.Items.model.elements c.args.input) c.iter_elements.ensures.gives
    c.in-None.ensures.steps c.requires
