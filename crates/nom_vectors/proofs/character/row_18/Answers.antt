use Rattle.std.proofs.Common.{[], ◌∷◌, refl}
use Rattle.std.specs.Prelude.{codes}
use Rattle.std.specs.Str.{chars}
use Rattle.nom_calls.specs.TextCuts.{text_cuts}
use Rattle.nom_vectors.proofs.character.row_18.Goals as goal

pub grows-requires : goal.grows-requires
unfolding chars
grows-requires c = text_cuts (codes "aabX") _ (0 ∷ (1 ∷ (2 ∷ (3 ∷ [])))) refl ((0, refl), ((1, refl), ((2, refl), ((3, refl), tt))))

pub grows-requires-then-grows : goal.grows-requires-then-grows
unfolding chars
grows-requires-then-grows c = text_cuts (codes "aabX") _ (1 ∷ (3 ∷ (4 ∷ []))) refl ((1, refl), ((3, refl), ((4, refl), tt)))
