-- The parts of a JSON text by the byte where they begin, and what stands where one is missing.
use Rattle.std.specs.Prelude.{◌≡◌, ℕ, ◌<◌, ◌==◌, ◌||◌, Bool, true, false, List, None, codes, length}
use Rattle.nom_error.specs.declared.kind.ErrorKind.{ErrorKind}
use Rattle.nom_error.specs.declared.kind.ErrorKind.TheVariants as Kind
use Rattle.nom_traits.specs.Classes.{is_dec_digit_code, is_hex_digit_code, is_listed}
use Rattle.nom_json_run.specs.declared.bracket.Missing as Part
use Rattle.nom_json_run.specs.declared.bracket.Missing.TheVariants as Missing
use Rattle.nom_json_run.specs.Json.{after_word, begins, closing, first_is, is_plain_code}

-- the first characters of values that are no number
abbrev pub is_mark : ℕ → Bool
is_mark b = b == 34 || b == 91 || b == 102 || b == 110 || b == 116 || b == 123

-- the first characters of what follows a backslash
abbrev pub is_escape_code : ℕ → Bool
is_escape_code b = b == 117 || is_listed (codes "\"\\/bfnrt") b

-- the first character of a word stands at the place
pub data BeginsWord (word i : List ℕ) : Type 0 where
  as_null : word ≡ codes "null" → begins 110 i ≡ true → BeginsWord word i
  as_true : word ≡ codes "true" → begins 116 i ≡ true → BeginsWord word i
  as_false : word ≡ codes "false" → begins 102 i ≡ true → BeginsWord word i

-- The part isn't at the place, as the byte there tells. Of a word its first character is there, and others are missing.
abbrev pub IsPart : Part.Missing → List ℕ → Type 0
IsPart Missing.Value i = (first_is is_mark i ≡ false) × (first_is is_dec_digit_code i ≡ false) × (begins 45 i ≡ false)
IsPart (Missing.Word word) i = BeginsWord word.now i × (after_word word.now i ≡ None)
IsPart Missing.Digit i = first_is is_dec_digit_code i ≡ false
IsPart Missing.Character i = (first_is is_plain_code i ≡ false) × (begins 34 i ≡ false) × (begins 92 i ≡ false)
IsPart Missing.Escape i = first_is is_escape_code i ≡ false
IsPart Missing.Hex i = first_is is_hex_digit_code i ≡ false
IsPart Missing.Name i = begins 34 i ≡ false
IsPart Missing.Colon i = begins 58 i ≡ false
IsPart (Missing.Comma bracket) i = (begins 44 i ≡ false) × (begins (closing bracket) i ≡ false)
IsPart Missing.End i = 0 < length i

-- the part of a number or a string that an error of a kind tells to be missing
abbrev pub missing_of : ErrorKind → Part.Missing
missing_of Kind.Digit = Missing.Digit
missing_of Kind.Satisfy = Missing.Hex
missing_of Kind.OneOf = Missing.Escape
missing_of kind = Missing.Character
