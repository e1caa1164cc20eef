-- Blocks of bytes: vectors with a lane for each byte.
use Rattle.std.specs.Prelude.{◌≡◌, ℕ, ◌+◌, ◌-◌, ◌%◌, ◌<◌, ◌≤◌, Bool, true, false, List, [], ◌∷◌, min, slice_index, bit_or}

-- how far a byte lies after another; past 256 it starts again
abbrev pub above : ℕ → ℕ → ℕ
above low b = (b + (256 - low)) % 256

-- letters in lower case
abbrev pub lower_case : ℕ → ℕ
lower_case b = bit_or b 32

-- how far a byte lies after the nearest one of a list, and 255 at the most: 0 for a byte of the list
abbrev pub nearest : List ℕ → ℕ → ℕ
nearest [] b = 255
nearest (c ∷ list) b = min (above c b) (nearest list b)

-- of the n bytes from a place on, the first `run` pass the test, and the one after them, if it is of the n, doesn't
pub record IsRunWithin (test : ℕ → Bool) (bytes : List ℕ) (place n run : ℕ) : Type 0 where
  pub within : run ≤ n
  pub passes : (k : ℕ) → place ≤ k → k < place + run → test (slice_index bytes k) ≡ true
  pub stops : run < n → test (slice_index bytes (place + run)) ≡ false
