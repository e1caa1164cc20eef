-- Forms of integers in decimal digits.
use Rattle.std.specs.Prelude.{◌≡◌, ℕ, ◌<◌, Bool, true, false, ◌⊎◌, List, ℤ, pos, ◌<ℤ◌}
use Rattle.nom_character_integer.specs.Integers.{with_sign}
use Rattle.nom_internal.specs.Prelude.{is_dec_digit_code}
use Rattle.nom_sink.specs.declared.error.WriteError.{WriteError}
use Rattle.nom_sink.specs.declared.error.WriteError.TheVariants.{Mismatch}
use Rattle.nom_sink.specs.Numerals.{IsSigned, LacksSigned}
use Rattle.nom_sink.specs.Written.{Space}

-- an item is a decimal digit, by its code, or not
abbrev pub IsDigit : {A : Type 0} → (A → ℕ) → A → Bool → Type 0
IsDigit code x b = is_dec_digit_code (code x) ≡ b

module _ {T A : Type 0} (item_of : ℕ → A) (signed : Bool) (value : T → ℤ) (fits : ℤ → Type 0) where
  -- the digits of a number that its type has, after a minus if it is negative and a sign may stand first
  pub record IsDecimal (v : T) (xs : List A) : Type 0 where
    pub negative : Bool
    pub whole : ℕ
    pub value_is : value v ≡ with_sign negative whole
    pub fitting : fits (with_sign negative whole)
    pub minus : negative ≡ true → (signed ≡ true) × (0 < whole)
    pub written : IsSigned item_of negative whole xs

-- it is negative and no sign may stand first, or there is no room for what writes it
abbrev pub DecimalFails : {T A : Type 0} → (ℕ → A) → Bool → (T → ℤ) → T → Space → WriteError → Type 0
DecimalFails item_of signed value v s e = ((signed ≡ false) × (value v <ℤ pos 0) × (e ≡ Mismatch s.start)) ⊎
    ((negative : Bool) × (n : ℕ) × (value v ≡ with_sign negative n) × (negative ≡ true → signed ≡ true) × LacksSigned item_of negative n s e)
