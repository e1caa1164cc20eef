-- The laws of the shapes of decimal fractions, by those of their parts.
use Rattle.std.specs.Prelude.{◌≡◌, ℕ, ◌==◌, Some}
use Rattle.std.specs.Char.{len_utf8}
use Rattle.nom_error.specs.declared.kind.ErrorKind.TheVariants as Kind
use Rattle.nom_internal.specs.Prelude.{Errors, Model, InputLaws, AreValues, Meaning, IsLawful, IsSteady, recognized_meaning, pair_meaning}
use Rattle.nom_traits.specs.declared.character.AsciiClass.TheVariants as Class
use Rattle.nom_internal.specs.laws.RecognizedLaws.{recognized_lawful, recognized_steady}
use Rattle.nom_internal.specs.laws.SequenceLaws.{sequence_lawful, sequence_steady}
use Rattle.nom_branch.specs.Alternatives.{next_meaning, choice_meaning}
use Rattle.nom_branch.specs.laws.AlternativeLaws.{next_lawful, next_steady, choice_lawful, choice_steady}
use Rattle.nom_character_first.specs.declared.first.Blame.TheVariants.{OfChar}
use Rattle.nom_character.specs.ClassRuns.{class_lawful, class_steady}
use Rattle.nom_character_first.specs.FirstItem.{char_meaning}
use Rattle.nom_character_first.specs.laws.FirstItemLaws.{test_is_fixed, first_item_lawful, first_item_steady}
use Rattle.nom_combinator.specs.Verdicts.{cut_meaning, opt_meaning}
use Rattle.nom_combinator.specs.laws.VerdictLaws.{cut_lawful, cut_steady, opt_lawful, opt_steady}
use Rattle.nom_number_text.specs.Floats.{either_char_meaning, digits_meaning, whole_meaning, point_meaning, decimal_meaning, exponent_meaning, float_meaning}

-- the laws of a stream parser
pub record IsStream {I A V E : Type 0} (w : Model I A) (m : Meaning I V E) : Type 0 where
  pub lawful : IsLawful w m
  pub steady : IsSteady w m

module _ {I A P E : Type 0} {w : Model I A} {a : Meaning I P E} (p : IsStream w a) where
  pub opt_stream : IsStream w (opt_meaning a)
  opt_stream = record { lawful = opt_lawful p.lawful; steady = opt_steady p.steady }

  pub cut_stream : IsStream w (cut_meaning a)
  cut_stream = record { lawful = cut_lawful p.lawful; steady = cut_steady p.steady }

  pub recognized_stream : InputLaws w → IsStream w (recognized_meaning w a)
  recognized_stream l = record { lawful = recognized_lawful l p.lawful; steady = recognized_steady l p.steady }

  module _ {Q : Type 0} {b : Meaning I Q E} (q : IsStream w b) where
    pub pair_stream : InputLaws w → IsStream w (pair_meaning w a b)
    pair_stream l = record { lawful = sequence_lawful l p.lawful q.lawful; steady = sequence_steady l p.steady q.steady }

    pub choice_stream : (errs : Errors I E) → IsStream w (choice_meaning errs (next_meaning errs a b))
    choice_stream errs = record {
      lawful = choice_lawful errs (next_lawful errs p.lawful q.lawful);
      steady = choice_steady errs (next_steady errs p.steady q.steady);
    }

module _ {I A E : Type 0} (w : Model I A) (l : InputLaws w) (IsValue : A → Type 0) (values : (i : I) → w.IsKnown i → AreValues IsValue (w.elements i))
    (code : A → ℕ) (errs : Errors I E) where
  pub char_stream : (c : ℕ) → IsStream w (char_meaning w code errs c)
  char_stream c = record {
    lawful = first_item_lawful w IsValue values code (λ x b. b ≡ (code x == c)) (test_is_fixed IsValue (λ x. code x == c)) (Some (len_utf8 c)) errs (OfChar c);
    steady = first_item_steady w IsValue values code (λ x b. b ≡ (code x == c)) (test_is_fixed IsValue (λ x. code x == c)) (Some (len_utf8 c)) errs (OfChar c);
  }

  pub either_stream : (c d : ℕ) → IsStream w (either_char_meaning w code errs c d)
  either_stream c d = choice_stream (char_stream c) (char_stream d) errs

  pub digits_stream : IsStream w (digits_meaning w code errs)
  digits_stream = record {
    lawful = class_lawful w IsValue values code errs Class.Digit (Some Kind.Digit);
    steady = class_steady w IsValue values code errs Class.Digit (Some Kind.Digit);
  }

  whole_stream : IsStream w (whole_meaning w code errs)
  whole_stream =
      let after = pair_stream (char_stream 46) (opt_stream digits_stream) l in
      recognized_stream (pair_stream digits_stream (opt_stream after) l) l

  point_stream : IsStream w (point_meaning w code errs)
  point_stream = recognized_stream (pair_stream (char_stream 46) digits_stream l) l

  decimal_stream : IsStream w (decimal_meaning w code errs)
  decimal_stream = choice_stream whole_stream point_stream errs

  exponent_stream : IsStream w (exponent_meaning w code errs)
  exponent_stream =
      let digits = pair_stream (opt_stream (either_stream 43 45)) (cut_stream digits_stream) l in
      recognized_stream (pair_stream (either_stream 101 69) digits l) l

  pub float_stream : IsStream w (float_meaning w code errs)
  float_stream =
      let after = pair_stream decimal_stream (opt_stream exponent_stream) l in
      recognized_stream (pair_stream (opt_stream (either_stream 43 45)) after l) l
