use Rattle.nom_traits.specs.BitPlaces.{grows_by_bytes}
use Rattle.nom_traits.proofs.bits.bits_grow_by_bytes.Goals as goal

pub returns : goal.returns
returns g c = grows_by_bytes g.I.Items.model
