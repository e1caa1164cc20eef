-- Sections of settings.
use Rattle.std.specs.Prelude.{ℕ, Option, Vec, codes}
use Rattle.nom.specs.Texts.{Text, TextWord, char_of, delimited_of, is_not_of, many0_of, map_of, opt_of, pair_of, separated_pair_of, take_while_of}
use Rattle.nom.specs.Texts.{terminated_of}
use Rattle.example_formats.specs.Named.{in_value}
use Rattle.example_formats.specs.declared.ini.Section.{Section}

-- the end of a line: `\r\n`, or `\n` alone
abbrev end_of : TextWord (Option ℕ × ℕ)
end_of = pair_of (opt_of (char_of 13)) (char_of 10)

-- a name in brackets
abbrev header_of : TextWord Text
header_of = delimited_of (char_of 91) (is_not_of (codes "]\r\n")) (pair_of (char_of 93) end_of)

-- a name, and a value after `=` up to the end of the line
abbrev setting_of : TextWord (Text × Text)
setting_of = terminated_of (separated_pair_of (is_not_of (codes "[=\r\n")) (char_of 61) (take_while_of in_value)) end_of

abbrev pub sections_of : {M : Type 0} → TextWord (Vec Section M)
sections_of = many0_of (map_of (λ o. record { name = o.0; settings = o.1 }) (pair_of header_of (many0_of setting_of)))
