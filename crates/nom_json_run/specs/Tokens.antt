-- The grammars of numbers and strings by RFC 8259, as nom's parsers have them over bytes or characters. `compares` is how inputs compare with tags,
-- `IsItem` says which code points are items, and `decided` is what is done to a part where what stands before it leaves no other way.
use Rattle.std.specs.Prelude.{◌≡◌, ℕ, List, None, Option, Some, chars, codes, length}
use Rattle.std.specs.List.{Contains}
use Rattle.nom_error.specs.declared.kind.ErrorKind.TheVariants as Kind
use Rattle.nom_traits.specs.Classes.{is_hex_digit_code}
use Rattle.nom_traits.specs.declared.character.AsciiClass.TheVariants as Class
use Rattle.nom_internal.specs.Prelude.{CompareResult, Errors, Model}
use Rattle.nom_internal.specs.TupleWords.{tuple_of_four}
use Rattle.nom_internal.specs.Word.{Word}
use Rattle.nom_internal.specs.Words.{pair_of}
use Rattle.nom_bytes.specs.Tests.{passing}
use Rattle.nom_bytes.specs.Words as Runs
use Rattle.nom_branch.specs.Words.{alt_of, or_of}
use Rattle.nom_character.specs.Tests.{char_passing, char_within}
use Rattle.nom_character.specs.Words as Characters
use Rattle.nom_combinator.specs.Words.{opt_of, recognize_of}
use Rattle.nom_multi_fold.specs.Words.{many0_count_of}
use Rattle.nom_sequence.specs.Words.{preceded_of, terminated_of}
use Rattle.nom_json_run.specs.Json.{is_plain_code}

module _ {I E : Type 0} (w : Model I ℕ) (errs : Errors I E) where
  abbrev pub spaces_of : Word I I E
  spaces_of = Characters.class_of w errs (λ x. x) Class.MultiSpace None

  abbrev pub digits_of : Word I I E
  digits_of = Characters.class_of w errs (λ x. x) Class.Digit (Some Kind.Digit)

  abbrev pub char_of : ℕ → Word I ℕ E
  char_of = Characters.char_of w errs (λ x. x)

  abbrev pub one_of : List ℕ → Word I ℕ E
  one_of set = Characters.satisfy_of w errs (λ x. x) Kind.OneOf (char_within (λ x. x) (Contains (chars set)))

  abbrev pub hex_of : (ℕ → Type 0) → Word I ℕ E
  hex_of IsItem = Characters.satisfy_of w errs (λ x. x) Kind.Satisfy (char_passing (λ x. x) IsItem (λ _. Unit {0}) (λ c t. t ≡ is_hex_digit_code c))

  -- the characters that represent themselves, as many as there are
  abbrev pub plain_of : (ℕ → Type 0) → Word I I E
  plain_of IsItem = Runs.run_of w (passing IsItem (λ _. Unit {0}) (λ c t. t ≡ is_plain_code c))

  abbrev pub tag_of : (List ℕ → List ℕ → CompareResult → Type 0) → List ℕ → Word I I E
  tag_of compares = Runs.tag_of w errs length compares

  -- integer = '0' | digit+
  abbrev pub integer_of : (List ℕ → List ℕ → CompareResult → Type 0) → Word I I E
  integer_of compares = alt_of errs (or_of errs (tag_of compares (codes "0")) digits_of)

  module _ (decided : (O : Type 0) → Word I O E → Word I O E) where
    -- fraction = ('.' digit+)?
    abbrev pub fraction_of : Word I (Option I) E
    fraction_of = opt_of (preceded_of w (char_of 46) (decided _ digits_of))

    -- exponent = (('e' | 'E') ('+' | '-')? digit+)?
    abbrev pub exponent_of : Word I (Option I) E
    exponent_of = opt_of (preceded_of w (pair_of w (one_of (codes "eE")) (opt_of (one_of (codes "+-")))) (decided _ digits_of))

    -- number = '-'? integer fraction exponent
    abbrev pub number_of : (List ℕ → List ℕ → CompareResult → Type 0) → Word I I E
    number_of compares = recognize_of w (tuple_of_four w (opt_of (char_of 45)) (integer_of compares) fraction_of exponent_of)

    module _ (IsItem : ℕ → Type 0) where
      -- escape = '\\' ('u' hex hex hex hex | letter)
      abbrev pub escape_of : Word I ℕ E
      escape_of = preceded_of w (char_of 92) (decided _ (alt_of errs (or_of errs (terminated_of w (char_of 117)
          (decided _ (tuple_of_four w (hex_of IsItem) (hex_of IsItem) (hex_of IsItem) (hex_of IsItem)))) (one_of (codes "\"\\/bfnrt")))))

      -- characters = plain* (escape plain*)*, in two parts
      abbrev pub escapes_of : Word I ℕ E
      escapes_of = many0_count_of w errs (terminated_of w escape_of (plain_of IsItem))
