-- The bytes that write a number.
use Rattle.std.specs.Prelude.{◌≡◌, ℕ, List, length}
use Rattle.nom_number.specs.declared.order.Endianness.{Endianness}
use Rattle.nom_number.specs.Numbers.{binary_number}

-- that many bytes, which the parser reads in an order as the bits of the number
abbrev pub AreBytesOf : (endian : Endianness) (count bits : ℕ) → List ℕ → Type 0
AreBytesOf endian count bits xs = (length xs ≡ count) × (binary_number endian xs ≡ bits)
