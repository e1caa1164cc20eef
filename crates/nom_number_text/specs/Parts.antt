-- The parts of a decimal fraction. Of code points 43 is '+', 45 is '-', 46 is '.', 48 is '0', 69 is 'E' and 101 is 'e'.
use Rattle.std.specs.Prelude.{◌≡◌, ◌⊎◌, ℕ, ◌==◌, Bool, true, not, cond, List, [], ◌∷◌, Option, Some, None, ℤ, pos}
use Rattle.std.proofs.Common.{inl, inr}
use Rattle.std.specs.Int.{w32}
use Rattle.nom_internal.specs.Prelude.{Errors, Model, Slice, IsModelledBy, Meaning, pair_meaning, EitherOutput}
use Rattle.nom_traits.specs.declared.character.AsciiClass.TheVariants as Class
use Rattle.nom_branch.specs.Alternatives.{next_meaning, choice_meaning}
use Rattle.nom_character.specs.ClassRuns.{class_meaning}
use Rattle.nom_character_first.specs.FirstItem.{char_meaning}
use Rattle.nom_combinator.specs.Verdicts.{cut_meaning, opt_meaning, OptOutput}
use Rattle.nom_sequence.specs.Sequences.{preceded_meaning}
use Rattle.nom_character_integer.specs.Integers.{signed_meaning}
use Rattle.nom_number_text.specs.Floats.{either_char_meaning, digits_meaning}
use Rattle.nom_number_text.specs.Exceptions.{as_float_meaning}

-- Lists of digits.
module _ {A : Type 0} (code : A → ℕ) where
  -- the digits after the leading zeros, or the last zero, where there are only zeros
  abbrev pub integer_of : List A → List A
  integer_of [] = []
  integer_of (x ∷ []) = x ∷ []
  integer_of (x ∷ (y ∷ xs)) = cond (code x == 48) (integer_of (y ∷ xs)) (x ∷ (y ∷ xs))

  -- the zeros before these
  abbrev pub zeros_of : List A → List A
  zeros_of [] = []
  zeros_of (x ∷ []) = []
  zeros_of (x ∷ (y ∷ xs)) = cond (code x == 48) (x ∷ zeros_of (y ∷ xs)) []

  -- one digit before others, where it is no zero or others are left
  abbrev pub kept_before : A → List A → List A
  kept_before x [] = cond (code x == 48) [] (x ∷ [])
  kept_before x (y ∷ ys) = x ∷ (y ∷ ys)

  -- digits without the trailing zeros
  abbrev pub trimmed : List A → List A
  trimmed [] = []
  trimmed (x ∷ xs) = kept_before x (trimmed xs)

  -- the same, but for the first digit, which stays: where there are only zeros, it is the first
  abbrev pub fraction_of : List A → List A
  fraction_of [] = []
  fraction_of (x ∷ xs) = x ∷ trimmed xs

module _ {I A : Type 0} (w : Model I A) (code : A → ℕ) where
  abbrev pub integer_slice : Slice w → Slice w
  integer_slice t = record { items = integer_of code t.items; mark = w.mark_after t.mark (zeros_of code t.items) }

  abbrev pub fraction_slice : Slice w → Slice w
  fraction_slice t = record { items = fraction_of code t.items; mark = t.mark }

module _ {I A : Type 0} (w : Model I A) where
  -- digits before a point, and those after it, by how they were read
  abbrev pub Both : Type 0
  Both = (Slice w × (Slice w ⊎ Slice w)) ⊎ (Slice w × Slice w)

  abbrev pub before_of : Both → Slice w
  before_of (inl t) = t.0
  before_of (inr t) = t.0

  abbrev pub either_of : Slice w ⊎ Slice w → Slice w
  either_of (inl t) = t
  either_of (inr t) = t

  abbrev pub after_of : Both → Slice w
  after_of (inl t) = either_of t.1
  after_of (inr t) = t.1

module _ {I A E : Type 0} (w : Model I A) (code : A → ℕ) (errs : Errors I E) where
  -- decimal digits, of which there may be none
  abbrev pub digits0_meaning : Meaning I (Slice w) E
  digits0_meaning = class_meaning w code errs Class.Digit None

  -- a point with the digits after it, or none, since none follow those before it
  abbrev pub after_meaning : Meaning I (Slice w ⊎ Slice w) E
  after_meaning = choice_meaning errs (next_meaning errs (preceded_meaning w (char_meaning w code errs 46) digits0_meaning) digits0_meaning)

  -- digits before the point and after it: one at least before it, or else after it
  abbrev pub both_meaning : Meaning I (Both w) E
  both_meaning = choice_meaning errs
      (next_meaning errs (pair_meaning w (digits_meaning w code errs) after_meaning)
      (pair_meaning w digits0_meaning (preceded_meaning w (char_meaning w code errs 46) (digits_meaning w code errs))))

  -- an optional sign, and the digits; each refusal is one of `Float` at the start
  abbrev pub mantissa_meaning : Meaning I (Option (ℕ ⊎ ℕ) × Both w) E
  mantissa_meaning = as_float_meaning errs (pair_meaning w (opt_meaning (either_char_meaning w code errs 43 45)) both_meaning)

  -- `e` or `E`, and a whole number, which must be there; or nothing
  abbrev pub power_meaning : Meaning I (Option ℤ) E
  power_meaning = opt_meaning (preceded_meaning w (either_char_meaning w code errs 101 69) (cut_meaning (signed_meaning w code w32 errs)))

  abbrev pub parts_meaning : Meaning I ((Option (ℕ ⊎ ℕ) × Both w) × Option ℤ) E
  parts_meaning = pair_meaning w mantissa_meaning power_meaning

-- no minus
abbrev pub is_plus : Option ℕ → Bool
is_plus None = true
is_plus (Some c) = not (c == 45)

-- the sign that was read, whichever it is
abbrev pub sign_read : Option (ℕ ⊎ ℕ) → Option ℕ
sign_read None = None
sign_read (Some (inl c)) = Some c
sign_read (Some (inr c)) = Some c

-- the power that was read, or 0
abbrev pub power_read : Option ℤ → ℤ
power_read None = pos 0
power_read (Some z) = z

-- What a tree stands for: the sign, the integer, the fraction and the power of ten.
abbrev pub IsParts : {I A : Type 0} (w : Model I A) → (code : A → ℕ) → (Option (ℕ ⊎ ℕ) × Both w) × Option ℤ → Bool × I × I × ℤ → Type 0
IsParts w code t o = (o.0 ≡ is_plus (sign_read t.0.0)) × IsModelledBy w (integer_slice w code (before_of w t.0.1)) o.1 ×
    IsModelledBy w (fraction_slice w code (after_of w t.0.1)) o.2 × (o.3 ≡ power_read t.1)

-- the digits and signs that were read, before zeros are left out
abbrev pub IsRaw : {I A : Type 0} (w : Model I A) → (Option (ℕ ⊎ ℕ) × Both w) × Option ℤ → (Option ℕ × (I × I)) × Option ℤ → Type 0
IsRaw w t o = (OptOutput (EitherOutput (λ c x. x ≡ c) (λ c x. x ≡ c)) t.0.0 o.0.0 ×
    EitherOutput (λ u x. IsModelledBy w u.0 x.0 × EitherOutput (IsModelledBy w) (IsModelledBy w) u.1 x.1)
    (λ u x. IsModelledBy w u.0 x.0 × IsModelledBy w u.1 x.1) t.0.1 o.0.1) × OptOutput (λ z x. x ≡ z) t.1 o.1
