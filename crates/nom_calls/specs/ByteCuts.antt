-- Cuts of byte slices: every number up to the length is a place.
use Rattle.std.specs.Prelude.{ℕ, ◌<◌, ◌≤◌, List, [], ◌∷◌, length, slice_index, zero, suc}
use Rattle.std.specs.Borrow.{Bor}
use Rattle.std.proofs.Common.{arith}
use Rattle.nom_internal.specs.Prelude.{bytes_model}
use Rattle.nom_traits.proofs.ByteCuts.{byte_place}
use Rattle.nom_calls.specs.Growing.{AreCuts}

-- no number of a list is above n
abbrev pub AllWithin : ℕ → List ℕ → Type 0
AllWithin n [] = Unit {0}
AllWithin n (x ∷ xs) = (x ≤ n) × AllWithin n xs

cut_within : (n : ℕ) (cuts : List ℕ) → AllWithin n cuts → (k : ℕ) → k < length cuts → slice_index cuts k ≤ n
cut_within n [] h k b = absurd (omega arith)
cut_within n (x ∷ xs) h zero b = h.0
cut_within n (x ∷ xs) h (suc k) b = cut_within n xs h.1 k (omega arith)

-- the cuts of a list that is written out
pub byte_cuts : (i : Bor (List ℕ)) (cuts : List ℕ) → AllWithin (length i.now) cuts → AreCuts bytes_model i cuts
byte_cuts i cuts h = λ k b. byte_place i (slice_index cuts k) (cut_within (length i.now) cuts h k b)

pub byte_cuts_below : (i : Bor (List ℕ)) (cuts : List ℕ) → ((k : ℕ) → k < length cuts → slice_index cuts k ≤ length i.now) → AreCuts bytes_model i cuts
byte_cuts_below i cuts h = λ k b. byte_place i (slice_index cuts k) (h k b)
