use Rattle.std.proofs.Common.{[], ◌∷◌, ◌≡◌, List, ℕ, ◌++◌, refl}
use Rattle.nom_internal.specs.Prelude.{IsDecided}
use Rattle.nom_calls.proofs.FuncSound.{items_stream_func}
use Rattle.example_parts.specs.Firsts.{first_outcome}
use Rattle.example_parts.proofs.functions.grown_byte.Goals as goal

first_stays : (xs more : List ℕ) → IsDecided (first_outcome xs) → first_outcome (xs ++ more) ≡ first_outcome xs
first_stays [] more d = absurd d
first_stays (x ∷ xs) more d = refl

pub grown-requires-clause-sound : goal.grown-requires-clause-sound
grown-requires-clause-sound c = items_stream_func first_outcome first_stays
