-- Inputs with line and column: their words, and the cuts of those that hold bytes.
pub use Rattle.nom_located.specs.Lines.{EndsLine, IsLineStart, IsLineStop, IsUtf8Column, begins_character}
pub use Rattle.nom_located.specs.Located.{IsAfter, Place, line_ends, located, past_bytes, place, located_model}
use Rattle.std.specs.Prelude.{ℕ, List, length}
use Rattle.std.specs.Borrow.{Bor}
use Rattle.nom_internal.specs.Prelude.{bytes_model}
use Rattle.nom_calls.specs.ByteCuts.{AllWithin, byte_cuts}
use Rattle.nom_calls.specs.Growing.{AreCuts}
use Rattle.nom_located.specs.Moving.{Moving, moving_model}
use Rattle.nom_located.specs.laws.MovingLaws.{place_moving}

-- the cuts of a list that is written out
pub located_cuts : {S : Type 0} (m : Moving S (Bor (List ℕ)) ℕ) (x : S) (cuts : List ℕ) → AllWithin (length (m.held x).now) cuts →
    AreCuts (moving_model m bytes_model) x cuts
located_cuts m x cuts h = λ k b. place_moving m bytes_model x _ (byte_cuts (m.held x) cuts h k b)
