-- Lines of a source: where they begin and end, and characters in them.
use Rattle.std.specs.Prelude.{◌≡◌, ℕ, ◌+◌, ◌-◌, ◌≤◌, ◌⊎◌, Bool, ◌||◌, nat_le, nat_lt, List, length, count_by, slice_range}
use Rattle.memchr.specs.Find.{Nowhere, Passes, is_byte}

-- a line ends at a place: there stands the byte 10
abbrev pub EndsLine : List ℕ → ℕ → Type 0
EndsLine source k = Passes (is_byte 10) source k

-- The line of a place begins at `start`: no line ends from there up to the place, and it is the start of all, or a line ends just before it.
pub record IsLineStart (source : List ℕ) (at start : ℕ) : Type 0 where
  pub begins : start ≤ at
  pub unbroken : Nowhere (EndsLine source) start at
  pub starts : (start ≡ 0) ⊎ (EndsLine source (start - 1))

-- It ends at `stop`: no line ends from the place up to there, and it is the end of all, or a line ends there.
pub record IsLineStop (source : List ℕ) (at stop : ℕ) : Type 0 where
  pub ends : at ≤ stop
  pub within : stop ≤ length source
  pub unbroken : Nowhere (EndsLine source) at stop
  pub stops : (stop ≡ length source) ⊎ (EndsLine source stop)

-- the byte begins a character in UTF-8: those from 128 to 191 go on with one
abbrev pub begins_character : ℕ → Bool
begins_character b = nat_lt b 128 || nat_le 192 b

-- A column in characters: 1, and how many characters begin in the line before the place.
pub record IsUtf8Column (source : List ℕ) (at column : ℕ) : Type 0 where
  pub start : ℕ
  pub starts : IsLineStart source at start
  pub column_is : column ≡ 1 + count_by begins_character (slice_range source start at)
