-- Parts of a configuration file, by names of one's own: for any input and any error type.
use Rattle.std.specs.Prelude.{codes}
use Rattle.nom.specs.Words.{Word, char_of, delimited_of, is_not_of, separated_pair_of, tag_of, terminated_of}

module _ {I E : Type 0} where
  -- a name in brackets, and the end of its line
  abbrev pub header_of : Word I I E
  header_of = terminated_of (delimited_of (char_of 91) (is_not_of (codes "]")) (char_of 93)) (tag_of (codes "\n"))

  -- a name and its value
  abbrev pub setting_of : Word I (I × I) E
  setting_of = separated_pair_of (is_not_of (codes "=\n")) (char_of 61) (is_not_of (codes "\n"))
