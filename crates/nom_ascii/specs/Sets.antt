-- Sets of ASCII characters, as numbers with a bit for each.
use Rattle.std.specs.Prelude.{ℕ, ◌+◌, ◌-◌, ◌^◌, Bool, IsTrue, List, ◌&&◌, ◌==◌, cond, fold, nat_lt, bit_and, bit_or}
use Rattle.std.specs.Int.{bit_at, bit_not, w128}
use Rattle.nom_ascii.specs.declared.AsciiSet.{AsciiSet}

-- the set has the character with this code
unfoldable pub holds : AsciiSet → ℕ → Bool
holds set code = nat_lt code 128 && (bit_at set.mask code == 1)

-- the same as a fact, by a closed name, for tests of items
unfoldable pub Held : AsciiSet → ℕ → Type 0
Held set code = IsTrue (holds set code)

-- the mask with one more character, if that is ASCII
abbrev pub with_code : ℕ → ℕ → ℕ
with_code mask code = cond (nat_lt code 128) (bit_or mask (2 ^ code)) mask

-- the ASCII characters in a list
unfoldable pub set_of : List ℕ → AsciiSet
set_of codes = record { mask = fold with_code 0 codes }

-- how many codes of ASCII are below a number
abbrev pub ascii_below : ℕ → ℕ
ascii_below n = cond (nat_lt n 128) n 128

-- the characters from one to another, both included
unfoldable pub span_of : ℕ → ℕ → AsciiSet
span_of first last = record { mask = (2 ^ ascii_below (last + 1) - 1) - (2 ^ ascii_below first - 1) }

-- the characters in either set
unfoldable pub and_of : AsciiSet → AsciiSet → AsciiSet
and_of set other = record { mask = bit_or set.mask other.mask }

-- the characters in a set that aren't in another
unfoldable pub except_of : AsciiSet → AsciiSet → AsciiSet
except_of set other = record { mask = bit_and set.mask (bit_not w128 other.mask) }

-- the letters, the digits, and both
unfoldable pub alphas : AsciiSet
alphas = and_of (span_of 97 122) (span_of 65 90)

unfoldable pub digits : AsciiSet
digits = span_of 48 57

unfoldable pub alphanumerics : AsciiSet
alphanumerics = and_of alphas digits
