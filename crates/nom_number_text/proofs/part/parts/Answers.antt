use Rattle.std.proofs.Common.{◌∙◌, w32}
use Rattle.std.proofs.lemmas.Int.{to_z-of_z}
use Rattle.nom_number_text.proofs.PartShown.{parts_made}
use Rattle.nom_number_text.proofs.part.parts.Goals as goal

pub returns : goal.returns
returns g c t r =
    let made = parts_made g.I.Items.model g.I.Item.Value.code c.args.read c.no_minus.result c.integer_part.result c.fraction_part.result
    c.power_of.result c.no_minus.ensures c.integer_part.ensures c.fraction_part.ensures c.power_of.ensures t r in
    (made.0, made.1, made.2, to_z-of_z w32 c.power_of.result (record { sfits = c.power_of.type_inv }) ∙ made.3)
