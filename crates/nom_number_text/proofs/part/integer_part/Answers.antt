use Rattle.nom_number_text.proofs.PartDigits.{integer_place, integer_seen}
use Rattle.nom_number_text.proofs.part.integer_part.Goals as goal

pub take_from-requires : goal.take_from-requires
take_from-requires g c = integer_place g.I.Items.model g.met.I.Items.lawful g.I.Item.Value.code c.args.digits c.zeros_len.result c.zeros_len.ensures

pub returns : goal.returns
returns g c t s = integer_seen g.I.Items.model g.met.I.Items.lawful g.I.Item.Value.code c.args.digits c.zeros_len.result c.take_from.result t
    c.zeros_len.ensures c.take_from.ensures s
