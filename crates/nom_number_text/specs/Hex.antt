-- Numbers in base 16.
use Rattle.std.specs.Prelude.{◌≡◌, ℕ, ◌-◌, true, cond, List, map, take, Some}
use Rattle.std.specs.Int.{is_in_range}
use Rattle.nom_error.specs.declared.kind.ErrorKind.TheVariants as Kind
use Rattle.nom_internal.specs.Prelude.{Errors, is_dec_digit_code, value_of, Model, items_len, Slice, IsFirst, Outcome, Accept, Meaning, Passes, plain_case}
use Rattle.nom_internal.specs.Prelude.{case_meaning}
use Rattle.nom_traits.specs.declared.character.AsciiClass.TheVariants as Class
use Rattle.nom_character.specs.ClassRuns.{class_meaning}

-- the value of a digit in base 16, by its code point: 48 is '0', 65 is 'A' and 97 is 'a'
abbrev pub hex_value : ℕ → ℕ
hex_value c = cond (is_dec_digit_code c) (c - 48) (cond (is_in_range 65 70 c) (c - 55) (cond (is_in_range 97 102 c) (c - 87) 0))

-- the number that digits write in base 16
abbrev pub hex_number : {A : Type 0} → (code : A → ℕ) → List A → ℕ
hex_number code xs = value_of 16 (map (λ x. hex_value (code x)) xs)

module _ {I A : Type 0} (w : Model I A) (code : A → ℕ) where
  -- of a slice of digits the first eight, or all where they are fewer, with their number
  abbrev pub FirstEight : I → ℕ → Slice w → Outcome ℕ → Type 0
  FirstEight i n t o = IsFirst w i n t × (o ≡ Accept (items_len w.item_len (take 8 t.items)) (hex_number code (take 8 t.items)))

  -- The longest run of hexadecimal digits, one at least. The run is always built, since what is read is a part of it.
  abbrev pub hex_meaning : {E : Type 0} → Errors I E → Meaning I ℕ E
  hex_meaning errs = case_meaning (plain_case (λ _. true) (λ i. Passes (FirstEight i))) (class_meaning w code errs Class.HexDigit (Some Kind.IsA))
