-- Colours in base 16: a `#`, and two digits each for red, green and blue.
use Rattle.std.specs.Prelude.{ℕ, chars, codes, encode_utf8_all}
use Rattle.std.specs.Char.{is_digit}
use Rattle.std.specs.Str.Parse.{ParsesUnsigned}
use Rattle.std.specs.declared.num.ParseIntError.{ParseIntError}
use Rattle.nom.specs.Texts.{TextWord, map_of, map_res_by, tag_of, take_while_m_n_of, tuple_of_four}
use Rattle.example_grammars.specs.declared.hex.Color.{Color}

-- two digits, as the number that they write
abbrev pub primary_of : TextWord ℕ
primary_of = map_res_by {X = ParseIntError} (λ _. Unit {0}) (λ digits. ParsesUnsigned 8 16 (encode_utf8_all (chars digits.now)))
    (take_while_m_n_of 2 2 (λ c. is_digit c 16))

abbrev pub color_of : TextWord Color
color_of = map_of (λ o. record { red = o.1; green = o.2; blue = o.3 }) (tuple_of_four (tag_of (codes "#")) primary_of primary_of primary_of)
