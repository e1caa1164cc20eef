use Rattle.nom_traits.specs.BitPlaces.{passes_bits}
use Rattle.nom_traits.proofs.bits.bits_pass.Goals as goal

pub returns : goal.returns
returns g c = passes_bits g.I.Items.model g.met.I.Items.lawful g.met.I.Items.values
