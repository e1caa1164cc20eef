use Rattle.nom_number_text.proofs.PartDigits.{fraction_place, fraction_seen}
use Rattle.nom_number_text.proofs.part.fraction_part.Goals as goal

pub take-requires : goal.take-requires
take-requires g c = fraction_place g.I.Items.model g.met.I.Items.lawful g.I.Item.Value.code c.args.digits c.kept_len.result c.kept_len.ensures

pub returns : goal.returns
returns g c t s = fraction_seen g.I.Items.model g.met.I.Items.lawful g.I.Item.Value.code c.args.digits c.kept_len.result c.take.result t
    c.kept_len.ensures c.take.ensures s
