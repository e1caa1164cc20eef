use Rattle.nom_number_text.proofs.HexShown.{count_front}
use Rattle.nom_number_text.proofs.hex.first_eight.Goals as goal

pub returns-in-Ok : goal.returns-in-Ok
returns-in-Ok g c = record { items = count_front g.I.Items.model g.met.I.Items.lawful 8 c.args.digits c.in-Ok.n c.take.result c.in-Ok.ensures c.take.ensures }
