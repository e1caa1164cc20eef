-- Whole numbers that are written in decimal digits.
use Rattle.std.specs.Prelude.{◌≡◌, ℕ, ◌-◌, ◌<◌, ◌==◌, ◌||◌, ◌&&◌, Bool, true, false, cond, ◌⊎◌, List, [], ◌∷◌, ◌++◌, map, length, Some, ℤ, pos, neg_ℤ}
use Rattle.std.specs.Prelude.{◌≤ℤ◌, FitsSigned}
use Rattle.std.specs.Int.{Width, FitsUnsignedBits}
use Rattle.nom_error.specs.declared.kind.ErrorKind.TheVariants as Kind
use Rattle.nom_internal.specs.Prelude.{Errors, is_dec_digit_code, value_of, Model, items_len, Meaning, Leaf, leaf_meaning}

-- A list of items is one of code points: 43 is '+', 45 is '-' and 48 is '0'.
module _ {A : Type 0} (code : A → ℕ) where
  -- the longest front whose items are all decimal digits
  abbrev pub digits_of : List A → List A
  digits_of [] = []
  digits_of (x ∷ xs) = cond (is_dec_digit_code (code x)) (x ∷ digits_of xs) []

  -- what follows it
  abbrev pub after_digits : List A → List A
  after_digits [] = []
  after_digits (x ∷ xs) = cond (is_dec_digit_code (code x)) (after_digits xs) (x ∷ xs)

  -- the number that digits write in base 10
  abbrev pub decimal_number : List A → ℕ
  decimal_number xs = value_of 10 (map (λ x. code x - 48) xs)

-- a number with its sign
abbrev pub with_sign : (negative : Bool) → ℕ → ℤ
with_sign true n = neg_ℤ (pos n)
with_sign false n = pos n

-- By whether a sign may stand first.
module _ {A : Type 0} (code : A → ℕ) (signed : Bool) where
  abbrev pub is_sign : A → Bool
  is_sign x = signed && (code x == 43 || code x == 45)

  -- the sign, where there is one
  abbrev pub sign_of : List A → List A
  sign_of [] = []
  sign_of (x ∷ xs) = cond (is_sign x) (x ∷ []) []

  -- what follows the sign
  abbrev pub after_sign : List A → List A
  after_sign [] = []
  after_sign (x ∷ xs) = cond (is_sign x) xs (x ∷ xs)

  abbrev pub is_negative : List A → Bool
  is_negative [] = false
  is_negative (x ∷ xs) = signed && code x == 45

  -- the digits after the sign, what follows them, and the number that both write
  abbrev pub integer_digits : List A → List A
  integer_digits xs = digits_of code (after_sign xs)

  abbrev pub after_integer : List A → List A
  after_integer xs = after_digits code (after_sign xs)

  abbrev pub integer_of : List A → ℤ
  integer_of xs = with_sign (is_negative xs) (decimal_number code (integer_digits xs))

-- what a type has of the integers: all from a first to a last one, with 0
pub record IsRange (fits : ℤ → Type 0) : Type 0 where
  pub zero : fits (pos 0)
  pub between : (x y z : ℤ) → fits x → fits z → x ≤ℤ y → y ≤ℤ z → fits y

module _ {I A : Type 0} (w : Model I A) (code : A → ℕ) (signed : Bool) (fits : ℤ → Type 0) where
  -- an item follows the digits, where more may come, since it might be a digit
  abbrev pub IsEnded : Bool → List A → Type 0
  IsEnded streaming xs = streaming ≡ true → 0 < length (after_integer code signed xs)

  -- A sign, if one may stand first, and the longest run of digits; the tree is the number. Refused is a number that doesn't fit, whatever follows it,
  -- and one without digits.
  abbrev pub integers : Leaf I ℤ
  integers = record {
    Accepts = λ s i n z. let xs = w.elements i in
        (n ≡ items_len w.item_len (sign_of code signed xs ++ integer_digits code signed xs)) × (z ≡ integer_of code signed xs) × fits z ×
        (0 < length (integer_digits code signed xs)) × IsEnded s xs;
    Refuses = λ s i. let xs = w.elements i in
        (¬ (fits (integer_of code signed xs))) ⊎ ((length (integer_digits code signed xs) ≡ 0) × IsEnded s xs);
    Lacks = λ i k. let xs = w.elements i in
        fits (integer_of code signed xs) × (length (after_integer code signed xs) ≡ 0) × (k ≡ Some 1);
  }

  abbrev pub integer_meaning : {E : Type 0} → Errors I E → Meaning I ℤ E
  integer_meaning errs = leaf_meaning (λ i. errs.of_kind i Kind.Digit) errs.grows integers

-- the numbers below 2 ^ bits, and those of a signed type of some bits, before which a sign may stand
module _ {I A E : Type 0} (w : Model I A) (code : A → ℕ) where
  abbrev pub unsigned_meaning : (bits : ℕ) → Errors I E → Meaning I ℤ E
  unsigned_meaning bits errs = integer_meaning w code false (FitsUnsignedBits bits) errs

  abbrev pub signed_meaning : Width → Errors I E → Meaning I ℤ E
  signed_meaning width errs = integer_meaning w code true (λ z. FitsSigned width z) errs
