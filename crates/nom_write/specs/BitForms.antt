-- Forms in bits.
use Rattle.std.specs.Prelude.{◌≡◌, ℕ, ◌<◌, ◌≤◌, ◌^◌, ◌⊎◌, Bool, false, List, ◌++◌, length, replicate}
use Rattle.nom_bits.specs.Bridges.{rounded_up}
use Rattle.nom_internal.specs.Prelude.{all_bits, spelled}
use Rattle.nom_sink.specs.declared.error.WriteError.{WriteError}
use Rattle.nom_sink.specs.declared.error.WriteError.TheVariants.{OutOfMemory, Full, TooLong, Mismatch}
use Rattle.nom_sink.specs.Written.{LacksRoom, Space}
use Rattle.nom_sink.specs.Written.Lack.{OfSpace}

-- that many bits, which spell the number
abbrev pub AreBitsOf : (count number : ℕ) → List Bool → Type 0
AreBitsOf count number bs = (length bs ≡ count) × (spelled bs ≡ number)

-- There is no room for that many bits, or the number needs more. Or its type has fewer, and the parser takes no number of that many.
abbrev pub FieldFails : (width count number : ℕ) → Space → WriteError → Type 0
FieldFails width count number s e = LacksRoom count s e ⊎ ((2 ^ count ≤ number) × (e ≡ TooLong s.start)) ⊎ ((width < count) × (e ≡ Mismatch s.start))

-- the bits of the bytes are these, and then zeros, fewer than 8
pub record IsPadded (bits : List Bool) (bytes : List ℕ) : Type 0 where
  pub zeros : ℕ
  pub few : zeros < 8
  pub bits_are : all_bits bytes ≡ bits ++ replicate zeros false

-- a form in bits, in whole bytes
pub record InWholeBytes (Form : List Bool → Type 0) (bytes : List ℕ) : Type 0 where
  pub bits : List Bool
  pub form : Form bits
  pub padded : IsPadded bits bytes

-- the error of a part of a group of bits, told of the whole group, which begins at that place; a group without room for it is too long
abbrev pub of_group : (place : ℕ) → WriteError → WriteError
of_group place OutOfMemory = OutOfMemory
of_group place Full = TooLong place
of_group place (TooLong n) = TooLong place
of_group place (Mismatch n) = Mismatch place

-- as many bits in whole bytes: more than 256 are too long, or there is no room for their bytes
abbrev pub GroupFails : (count : ℕ) → Space → WriteError → Type 0
GroupFails count s e = ((256 < count) × (e ≡ TooLong s.start)) ⊎ LacksRoom (rounded_up count) s e

-- the form fails by itself, where there is room for 256 bits, or its bits do in whole bytes
abbrev pub InWholeBytesFails : (List Bool → Type 0) → (Space → WriteError → Type 0) → Space → WriteError → Type 0
InWholeBytesFails Form Fails s e =
    ((room : ℕ) × (f : WriteError) × (256 ≤ room) × Fails (record { lack = OfSpace; room = room; start = 0 }) f × (e ≡ of_group s.start f)) ⊎
    ((bits : List Bool) × Form bits × GroupFails (length bits) s e)
