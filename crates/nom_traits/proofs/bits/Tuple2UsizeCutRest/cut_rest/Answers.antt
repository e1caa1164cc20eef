use Rattle.std.proofs.Common.{◌≡◌, ◌<◌, ◌≤◌, ◌-◌, ◌*◌, length, ◌∙◌, arith, ap, refl}
use Rattle.nom_traits.specs.Bits.{bits_model}
use Rattle.nom_traits.specs.Input.{input_len}
use Rattle.nom_traits.proofs.BitCuts.{bits_all, bits_later, bits_rest, bits_within}
use Rattle.nom_traits.proofs.bits.Tuple2UsizeCutRest.cut_rest.Goals as goal

pub returns-then-rest-whole-2 : goal.returns-then-rest-whole-2
returns-then-rest-whole-2 g c =
    let w = bits_model g.I.Items.model in
    let same : input_len w c.args.left ≡ input_len w c.args.self =
    omega (arith, c.bit_count-whole.ensures, c.bit_count-rest.ensures, c.if-rest-whole.false, c.if-rest-whole-2.true) in
    bits_all g.I.Items.model c.args.self c.args.left c.known.ensures same

pub overflow_sub-place : goal.overflow_sub-place
overflow_sub-place g c =
    let w = bits_model g.I.Items.model in
    let less : input_len w c.args.left ≤ input_len w c.args.self =
    omega (arith, c.bit_count-whole.ensures, c.bit_count-rest.ensures, c.if-rest-whole.false) in
    omega (arith, bits_within g.I.Items.model c.args.self c.args.left less, c.bit_count-rest.ensures, c.item_count.ensures)

pub returns : goal.returns
returns g c =
    let w = bits_model g.I.Items.model in
    let less : input_len w c.args.left < input_len w c.args.self =
    omega (arith, c.bit_count-whole.ensures, c.bit_count-rest.ensures, c.if-rest-whole-2.false) in
    bits_rest g.I.Items.model g.met.I.Items.lawful g.met.I.Items.values c.args.self c.args.left
    c.take_from-in-Ok-slice_index.result _ c.in-Ok-slice_index.end c.known.ensures less
    (ap (λ n. 8 * n - c.bit_count-rest.result) c.item_count.ensures ∙
    ap (λ m. 8 * length (g.I.Items.model.elements c.args.self.0) - m) c.bit_count-rest.ensures)
    c.in-Ok-slice_index.ensures c.take_from-in-Ok-slice_index.ensures

pub returns-then-begins_later : goal.returns-then-begins_later
returns-then-begins_later g c =
    bits_later g.I.Items.model g.met.I.Items.lawful g.met.I.Items.values c.args.self c.args.left c.take_from.result c.in-Ok.end _ _ c.known.ensures
    c.item_count-have.ensures c.item_count-kept.ensures (c.if-begins_later.ensures refl) c.in-Ok.ensures c.take_from.ensures
