use Rattle.std.proofs.Common.{◌==◌, sym, subst}
use Rattle.nom_character_integer.specs.Read.{AfterSign}
use Rattle.nom_character_integer.proofs.Readings.{sign_place, after_a_sign}
use Rattle.nom_character_integer.proofs.integer.after_sign.Goals as goal

pub take_from-requires : goal.take_from-requires
take_from-requires g c = sign_place g.I.Items.model g.I.Item.Value.code c.args.signed c.args.input c.in-Some.sign c.in-Some.ensures c.item_len.result
    c.item_len.ensures

pub returns-in-Some : goal.returns-in-Some
returns-in-Some g c =
    subst (λ k. AfterSign g.I.Items.model g.I.Item.Value.code c.args.signed c.args.input (record { negative = k == 45; digits = c.take_from.result }))
    (sym c.as_char.ensures) (after_a_sign g.I.Items.model g.I.Item.Value.code c.args.signed c.args.input c.in-Some.sign c.in-Some.ensures
    c.item_len.result c.take_from.result c.item_len.ensures c.take_from.ensures g.met.I.Items.lawful)
