-- Shapes of decimal fractions. Of code points 43 is '+', 45 is '-', 46 is '.', 69 is 'E' and 101 is 'e'.
use Rattle.std.specs.Prelude.{ℕ, ◌⊎◌, Some}
use Rattle.nom_error.specs.declared.kind.ErrorKind.TheVariants as Kind
use Rattle.nom_internal.specs.Prelude.{Errors, Model, Slice, Meaning, recognized_meaning, pair_meaning}
use Rattle.nom_traits.specs.declared.character.AsciiClass.TheVariants as Class
use Rattle.nom_branch.specs.Alternatives.{next_meaning, choice_meaning}
use Rattle.nom_character.specs.ClassRuns.{class_meaning}
use Rattle.nom_character_first.specs.FirstItem.{char_meaning}
use Rattle.nom_combinator.specs.Verdicts.{cut_meaning, opt_meaning}

module _ {I A E : Type 0} (w : Model I A) (code : A → ℕ) (errs : Errors I E) where
  -- one of two characters
  abbrev pub either_char_meaning : ℕ → ℕ → Meaning I (ℕ ⊎ ℕ) E
  either_char_meaning c d = choice_meaning errs (next_meaning errs (char_meaning w code errs c) (char_meaning w code errs d))

  -- decimal digits, one at least
  abbrev pub digits_meaning : Meaning I (Slice w) E
  digits_meaning = class_meaning w code errs Class.Digit (Some Kind.Digit)

  -- digits, with an optional point and optional digits after it
  abbrev pub whole_meaning : Meaning I (Slice w) E
  whole_meaning = recognized_meaning w (pair_meaning w digits_meaning (opt_meaning (pair_meaning w (char_meaning w code errs 46) (opt_meaning digits_meaning))))

  -- a point, and digits
  abbrev pub point_meaning : Meaning I (Slice w) E
  point_meaning = recognized_meaning w (pair_meaning w (char_meaning w code errs 46) digits_meaning)

  abbrev pub decimal_meaning : Meaning I (Slice w ⊎ Slice w) E
  decimal_meaning = choice_meaning errs (next_meaning errs whole_meaning point_meaning)

  -- `e` or `E`, an optional sign, and digits, which must be there
  abbrev pub exponent_meaning : Meaning I (Slice w) E
  exponent_meaning = recognized_meaning w
      (pair_meaning w (either_char_meaning 101 69) (pair_meaning w (opt_meaning (either_char_meaning 43 45)) (cut_meaning digits_meaning)))

  -- an optional sign, one of the two, and an optional exponent: what they consume
  abbrev pub float_meaning : Meaning I (Slice w) E
  float_meaning = recognized_meaning w (pair_meaning w (opt_meaning (either_char_meaning 43 45))
      (pair_meaning w decimal_meaning (opt_meaning exponent_meaning)))
