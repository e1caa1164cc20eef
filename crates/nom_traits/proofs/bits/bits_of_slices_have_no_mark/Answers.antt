use Rattle.std.proofs.Common.{refl}
use Rattle.nom_traits.specs.Bytes.{bytes_model}
use Rattle.nom_traits.specs.BitPlaces.{bits_alone}
use Rattle.nom_traits.proofs.bits.bits_of_slices_have_no_mark.Goals as goal

pub returns : goal.returns
returns c = bits_alone bytes_model (λ _ _. refl)
