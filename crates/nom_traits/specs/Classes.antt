-- The classes of characters, by the code point: 48 is '0', 65 is 'A' and 97 is 'a'. All are ASCII.
use Rattle.std.specs.Prelude.{◌≡◌, ℕ, nat_lt, Bool, true, false, not, ◌||◌, ◌==◌, List}
use Rattle.std.specs.List.{list_all, list_any}
use Rattle.std.specs.Int.{is_in_range}
use Rattle.nom_traits.specs.declared.character.AsciiClass.{AsciiClass}
use Rattle.nom_traits.specs.declared.character.AsciiClass.TheVariants as Class
use Rattle.nom_traits.specs.declared.character.CodeSet.{CodeSet}
use Rattle.nom_traits.specs.declared.character.CodeSet.TheVariants as Set

-- 'A' to 'Z' and 'a' to 'z'
abbrev pub is_alpha_code : ℕ → Bool
is_alpha_code c = is_in_range 65 90 c || is_in_range 97 122 c

-- '0' to '9'
abbrev pub is_dec_digit_code : ℕ → Bool
is_dec_digit_code c = is_in_range 48 57 c

-- letters and decimal digits
abbrev pub is_alphanum_code : ℕ → Bool
is_alphanum_code c = is_alpha_code c || is_dec_digit_code c

-- '0' to '9', 'A' to 'F' and 'a' to 'f'
abbrev pub is_hex_digit_code : ℕ → Bool
is_hex_digit_code c = is_dec_digit_code c || (is_in_range 65 70 c || is_in_range 97 102 c)

-- '0' to '7'
abbrev pub is_oct_digit_code : ℕ → Bool
is_oct_digit_code c = is_in_range 48 55 c

-- '0' and '1'
abbrev pub is_bin_digit_code : ℕ → Bool
is_bin_digit_code c = is_in_range 48 49 c

-- a space or a tab
abbrev pub is_space_code : ℕ → Bool
is_space_code c = c == 32 || c == 9

-- the end of a line, '\n'
abbrev pub is_newline_code : ℕ → Bool
is_newline_code c = c == 10

-- a space, a tab, '\r' or '\n'
abbrev pub is_multispace_code : ℕ → Bool
is_multispace_code c = is_space_code c || (is_newline_code c || c == 13)

-- the code points of a class
abbrev pub has_code : AsciiClass → ℕ → Bool
has_code Class.Alpha = is_alpha_code
has_code Class.Digit = is_dec_digit_code
has_code Class.HexDigit = is_hex_digit_code
has_code Class.OctDigit = is_oct_digit_code
has_code Class.BinDigit = is_bin_digit_code
has_code Class.Alphanumeric = is_alphanum_code
has_code Class.Space = is_space_code
has_code Class.MultiSpace = is_multispace_code

abbrev pub IsInside : AsciiClass → ℕ → Type 0
IsInside class c = has_code class c ≡ true

abbrev pub IsOutside : AsciiClass → ℕ → Type 0
IsOutside class c = has_code class c ≡ false

-- whether a list of bytes has a code point
abbrev pub is_listed : List ℕ → ℕ → Bool
is_listed list c = list_any (λ b. b == c) list

-- the code points of a set
abbrev pub in_set : CodeSet → ℕ → Bool
in_set (Set.Class class) = has_code class
in_set (Set.OneOf list) = is_listed list.now
in_set (Set.NoneOf list) = λ c. not (is_listed list.now c)

abbrev pub IsIn : CodeSet → ℕ → Type 0
IsIn set c = in_set set c ≡ true

abbrev pub IsNotIn : CodeSet → ℕ → Type 0
IsNotIn set c = in_set set c ≡ false

-- whether ASCII characters alone tell what is in the set: those in it are ASCII, or those outside it
abbrev pub of_ascii : CodeSet → Bool
of_ascii (Set.Class class) = true
of_ascii (Set.OneOf list) = list_all (λ b. nat_lt b 128) list.now
of_ascii (Set.NoneOf list) = list_all (λ b. nat_lt b 128) list.now
