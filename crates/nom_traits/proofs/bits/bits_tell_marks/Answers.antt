use Rattle.nom_traits.specs.BitPlaces.{tells_marks}
use Rattle.nom_traits.proofs.bits.bits_tell_marks.Goals as goal

pub returns : goal.returns
returns g c = tells_marks g.I.Items.model g.met.I.Items.lawful g.met.I.Items.values
