-- The shape of decimal fractions, by the characters that its parsers want.
use Rattle.std.proofs.Common.{◌≡◌, ℕ, Bool, true, Option, None, subst}
use Rattle.nom_internal.specs.Prelude.{Errors, Modes, Model, Slice, IsModelledBy, Meaning, ShowsMeaning, recognized_meaning, pair_meaning, PResult, ErrorKind}
use Rattle.nom_branch.specs.Alternatives.{next_meaning, choice_meaning}
use Rattle.nom_character_first.specs.FirstItem.{char_meaning}
use Rattle.nom_combinator.specs.Verdicts.{cut_meaning, opt_meaning}
use Rattle.std.specs.Prelude.{◌⊎◌, ℤ, FitsSigned}
use Rattle.std.specs.Int.{w32}
use Rattle.nom_traits.specs.declared.character.AsciiClass.{AsciiClass}
use Rattle.nom_traits.specs.declared.character.AsciiClass.TheVariants as Class
use Rattle.nom_character.specs.ClassRuns.{class_meaning}
use Rattle.nom_sequence.specs.Sequences.{preceded_meaning}
use Rattle.nom_character_integer.specs.Integers.{integer_meaning}
use Rattle.nom_number_text.specs.Parts.{Both, parts_meaning, IsRaw}
use Rattle.nom_number_text.specs.Exceptions.{as_float_meaning}
use Rattle.nom_number_text.specs.Floats.{either_char_meaning, digits_meaning, float_meaning}

-- what the parsers of one shape want
pub record Wants : Type 0 where
  pub plus : ℕ
  pub minus : ℕ
  pub point : ℕ
  pub first_point : ℕ
  pub small : ℕ
  pub large : ℕ
  pub exponent_plus : ℕ
  pub exponent_minus : ℕ

abbrev pub wants : ℕ → ℕ → ℕ → ℕ → ℕ → ℕ → ℕ → ℕ → Wants
wants a b c d e f g h = record { plus = a; minus = b; point = c; first_point = d; small = e; large = f; exponent_plus = g; exponent_minus = h }

abbrev pub fraction_wants : Wants
fraction_wants = wants 43 45 46 46 101 69 43 45

module _ {I A E : Type 0} (w : Model I A) (code : A → ℕ) (errs : Errors I E) where
  abbrev shape_of : Wants → Meaning I (Slice w) E
  shape_of s =
      let digits = digits_meaning w code errs in
      let whole = recognized_meaning w (pair_meaning w digits (opt_meaning (pair_meaning w (char_meaning w code errs s.point) (opt_meaning digits)))) in
      let part = recognized_meaning w (pair_meaning w (char_meaning w code errs s.first_point) digits) in
      let after = pair_meaning w (opt_meaning (either_char_meaning w code errs s.exponent_plus s.exponent_minus)) (cut_meaning digits) in
      let exponent = recognized_meaning w (pair_meaning w (either_char_meaning w code errs s.small s.large) after) in
      recognized_meaning w (pair_meaning w (opt_meaning (either_char_meaning w code errs s.plus s.minus))
      (pair_meaning w (choice_meaning errs (next_meaning errs whole part)) (opt_meaning exponent)))

  pub shape_shown : (s : Wants) (mode : Modes) (i : I) (r : PResult I I E) → s ≡ fraction_wants →
      ShowsMeaning w (IsModelledBy w) (shape_of s) mode i r → ShowsMeaning w (IsModelledBy w) (float_meaning w code errs) mode i r
  shape_shown s mode i r e = subst (λ z. ShowsMeaning w (IsModelledBy w) (shape_of z) mode i r) e

-- what the parsers of the parts want
pub record PartWants : Type 0 where
  pub plus : ℕ
  pub minus : ℕ
  pub point : ℕ
  pub first_point : ℕ
  pub small : ℕ
  pub large : ℕ
  pub after_class : AsciiClass
  pub after_wanted : Option ErrorKind
  pub none_class : AsciiClass
  pub none_wanted : Option ErrorKind
  pub alone_class : AsciiClass
  pub alone_wanted : Option ErrorKind
  pub signed : Bool

abbrev pub part_wants : ℕ → ℕ → ℕ → ℕ → ℕ → ℕ → AsciiClass → Option ErrorKind → AsciiClass → Option ErrorKind → AsciiClass → Option ErrorKind → Bool → PartWants
part_wants a b c d e f g h k l m n o =
    record {
      plus = a;
      minus = b;
      point = c;
      first_point = d;
      small = e;
      large = f;
      after_class = g;
      after_wanted = h;
      none_class = k;
      none_wanted =
          l;
      alone_class = m;
      alone_wanted = n;
      signed = o;
    }

abbrev pub parts_want : PartWants
parts_want = part_wants 43 45 46 46 101 69 Class.Digit None Class.Digit None Class.Digit None true

module _ {I A E : Type 0} (w : Model I A) (code : A → ℕ) (errs : Errors I E) where
  abbrev parts_of : PartWants → Meaning I ((Option (ℕ ⊎ ℕ) × Both w) × Option ℤ) E
  parts_of s =
      let digits = digits_meaning w code errs in
      let after = choice_meaning errs
      (next_meaning errs (preceded_meaning w (char_meaning w code errs s.point) (class_meaning w code errs s.after_class s.after_wanted))
      (class_meaning w code errs s.none_class s.none_wanted)) in
      let alone = pair_meaning w (class_meaning w code errs s.alone_class s.alone_wanted)
      (preceded_meaning w (char_meaning w code errs s.first_point) digits) in
      let both = choice_meaning errs (next_meaning errs (pair_meaning w digits after) alone) in
      let mantissa = as_float_meaning errs (pair_meaning w (opt_meaning (either_char_meaning w code errs s.plus s.minus)) both) in
      pair_meaning w mantissa (opt_meaning
      (preceded_meaning w (either_char_meaning w code errs s.small s.large) (cut_meaning (integer_meaning w code s.signed (λ z. FitsSigned w32 z) errs))))

  pub parts_shown : (s : PartWants) (mode : Modes) (i : I)
      (r : PResult I ((Option ℕ × (I × I)) × Option ℤ) E) → s ≡ parts_want →
      ShowsMeaning w (IsRaw w) (parts_of s) mode i r → ShowsMeaning w (IsRaw w) (parts_meaning w code errs) mode i r
  parts_shown s mode i r e = subst (λ z. ShowsMeaning w (IsRaw w) (parts_of z) mode i r) e
