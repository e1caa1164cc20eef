-- The words of a command line, as cuts.
use Rattle.std.specs.Prelude.{◌≡◌, ℕ, ◌+◌, ◌-◌, ◌^◌, ◌<◌, ◌≤◌, ◌⊎◌, List, [], length, slice_index_or, slice_index}
use Rattle.nom_run.specs.Runs.{NeverFalls}
use Rattle.std.specs.Str.Parse.{IsNumeral, digits_value}

-- one or more decimal digits that fit a `usize`
abbrev pub IsDecimalSize : List ℕ → Type 0
IsDecimalSize w = IsNumeral 10 w × (digits_value 10 w < 2 ^ 64)

-- the number that decimal digits write
abbrev pub word_number : List ℕ → ℕ
word_number w = digits_value 10 w

-- the numbers are those of the words, in order, and none is below the one before
pub record Numbers (words : List (List ℕ)) (ns : List ℕ) : Type 0 where
  pub lengths : length ns ≡ length words
  pub each : (k : ℕ) → k < length words → IsDecimalSize (slice_index_or words k []) × (slice_index ns k ≡ word_number (slice_index_or words k []))
  pub ordered : NeverFalls ns

-- The words up to a place are numbers, none below the one before: memory can run out for the number there.
pub record StartsWithNumbers (words : List (List ℕ)) : Type 0 where
  pub place : ℕ
  pub within : place < length words
  pub each : (k : ℕ) → k ≤ place → IsDecimalSize (slice_index_or words k [])
  pub ordered : (k : ℕ) → k < place → word_number (slice_index_or words k []) ≤ word_number (slice_index_or words (k + 1) [])

-- a word is no number, or its number is below the one before
pub record BadWord (words : List (List ℕ)) : Type 0 where
  pub place : ℕ
  pub within : place < length words
  pub bad : (¬ IsDecimalSize (slice_index_or words place [])) ⊎
      ((0 < place) × (word_number (slice_index_or words place []) < word_number (slice_index_or words (place - 1) [])))
