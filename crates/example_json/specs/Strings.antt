-- Strings, as they are meant.
use Rattle.std.specs.Prelude.{◌≡◌, ℕ, ◌+◌, ◌-◌, ◌*◌, ◌<◌, ◌≤◌, ◌==◌}
use Rattle.std.specs.Prelude.{if◌then◌else◌, cond, true, List, length, Option, String, chars, codes, encode_utf8, encode_utf8_all, string_bytes}
use Rattle.std.specs.List.{All}
use Rattle.std.specs.Option.{SomeIff}
use Rattle.std.specs.Char.{IsScalar}
use Rattle.std.specs.Str.Parse.{digits_value}
use Rattle.std.specs.Cow.{IsBorrowedStr, cow_str_bytes}
use Rattle.std.specs.declared.borrow.CowStr.{CowStr}
use Rattle.nom_traits.specs.Classes.{is_hex_digit_code}
use Rattle.nom_internal.specs.Prelude.{text_model}
use Rattle.nom_internal.specs.Words.{map_opt_of, mapping}
use Rattle.nom_bytes_escaped.specs.Words.{escaped_transform_of}
use Rattle.nom.specs.Texts.{Text, TextWord, all_consuming_of, alt_of, char_of, map_of, one_of_of, or_of, pair_of, plain_errors, preceded_of, tag_of}
use Rattle.nom.specs.Texts.{take_while_m_n_of, take_while1_of}
use Rattle.nom_json_run.specs.Json.{is_plain_code}

-- the character that a letter after a backslash stands for: `b`, `f`, `n`, `r`, `t`, and others for themselves
abbrev pub meant_of : ℕ → ℕ
meant_of letter = if letter == 98 then 8 else (if letter == 102 then 12 else (if letter == 110 then 10 else
    (if letter == 114 then 13 else (if letter == 116 then 9 else letter))))

-- the number that four digits write in base 16
abbrev pub number_of_four : List ℕ → ℕ
number_of_four digits = cond (length digits == 4) (digits_value 16 digits) 0

-- the number that a text of four digits writes
abbrev pub four_of : Text → ℕ
four_of text = number_of_four (encode_utf8_all (chars text.now))

-- the character of four digits, where their number is one of a character, and not of half a pair
abbrev pub IsAlone : Text → Option ℕ → Type 0
IsAlone digits r = SomeIff r (IsScalar (four_of digits)) (four_of digits)

-- the high half of a pair, from D800 up and below DC00, and the low one, from there up and below E000
abbrev pub IsHigh : ℕ → Type 0
IsHigh n = (55296 ≤ n) × (n < 56320)

abbrev pub IsLow : ℕ → Type 0
IsLow n = (56320 ≤ n) × (n < 57344)

-- the character of a pair, where both halves are one: 10000 in base 16, with ten bits more of each half
abbrev pub IsJoined : Text × Text → Option ℕ → Type 0
IsJoined digits r = SomeIff r (IsHigh (four_of digits.0) × IsLow (four_of digits.1)) (65536 + 1024 * (four_of digits.0 - 55296) + (four_of digits.1 - 56320))

-- four digits in base 16
abbrev pub hexes_of : TextWord Text
hexes_of = take_while_m_n_of 4 4 is_hex_digit_code

-- what a function gives for an output; where that is nothing, the input is refused
abbrev pub given_of : {O P : Type 0} → (O → Option P → Type 0) → TextWord O → TextWord P
given_of Gives = map_opt_of plain_errors (mapping (λ _. Unit {0}) Gives)

-- a letter or four digits after a backslash, or two times four, as the character that they stand for
abbrev pub escape_of : TextWord ℕ
escape_of = alt_of (or_of (map_of meant_of (one_of_of (codes "\"\\/bfnrt"))) (preceded_of (char_of 117)
    (alt_of (or_of (given_of IsAlone hexes_of) (given_of IsJoined (pair_of hexes_of (preceded_of (tag_of (codes "\\u")) hexes_of)))))))

-- characters that stand for themselves, one at least
abbrev pub plain_of : TextWord Text
plain_of = take_while1_of is_plain_code

-- Characters and escapes, and nothing after them, as the text that they make together: their bytes, in their order.
abbrev pub unescaped_by : {X : Type 0} → (X → List ℕ) → TextWord X
unescaped_by bytes = all_consuming_of (escaped_transform_of text_model plain_errors (λ x. x) bytes (λ text. encode_utf8_all (chars text.now)) encode_utf8
    plain_of 92 escape_of)

abbrev pub unescaped_of : {M : Type 0} → TextWord (String M)
unescaped_of = unescaped_by string_bytes

-- the same, with the text borrowed or owned
abbrev pub decoded_of : {M : Type 0} → TextWord (CowStr M)
decoded_of = unescaped_by cow_str_bytes

-- a text all of whose characters stand for themselves is given as it stands
abbrev pub IsLent : {M : Type 0} → Text → CowStr M → Type 0
IsLent written text = All (λ c. is_plain_code c ≡ true) (chars written.now) → IsBorrowedStr text
