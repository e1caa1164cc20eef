-- Characters, by their code points.
use Rattle.std.specs.Prelude.{ℕ, ◌==◌, ◌&&◌, Bool, cond, nat_le, Option, Some, None}

-- `#`
abbrev pub is_hash : ℕ → Bool
is_hash c = c == 35

-- `,`
abbrev pub is_comma : ℕ → Bool
is_comma c = c == 44

-- the binary digit that it is
abbrev pub bit_in : ℕ → Option ℕ
bit_in c = cond (c == 48) (Some 0) (cond (c == 49) (Some 1) None)

-- a byte of ones
abbrev pub is_ones : ℕ → Bool
is_ones b = b == 255

-- the lengths and the types of messages
abbrev pub is_length_of : ℕ → Bool
is_length_of n = nat_le 19 n && nat_le n 4096

abbrev pub is_type_of : ℕ → Bool
is_type_of k = nat_le 1 k && nat_le k 5
