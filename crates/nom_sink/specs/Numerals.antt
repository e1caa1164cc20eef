-- Numbers in digits.
use Rattle.std.specs.Prelude.{◌≡◌, ℕ, ◌+◌, ◌<◌, Bool, true, false, nat_lt, cond, List, [], ◌∷◌, length, map}
use Rattle.std.specs.List.{All}
use Rattle.nom_internal.specs.Prelude.{value_of}
use Rattle.nom_sink.specs.declared.error.WriteError.{WriteError}
use Rattle.nom_sink.specs.Parts.{Both, BothFail}
use Rattle.nom_sink.specs.Written.{LacksRoom, Space}

-- the code of a digit: 48 is '0', and 97 is 'a'
abbrev pub digit_code : ℕ → ℕ
digit_code d = cond (nat_lt d 10) (48 + d) (87 + d)

-- the digits that write a number in a radix, with no zero before them, as items
pub record AreDigitsOf {A : Type 0} (item_of : ℕ → A) (radix n : ℕ) (xs : List A) : Type 0 where
  pub digits : List ℕ
  pub items : xs ≡ map (λ d. item_of (digit_code d)) digits
  pub below : All (λ d. d < radix) digits
  pub some : 0 < length digits
  pub number : value_of radix digits ≡ n
  pub none_before : 0 < n → (ds : List ℕ) → digits ≡ 0 ∷ ds → ⊥
  pub alone : n ≡ 0 → digits ≡ 0 ∷ []

-- there is no room for the digits
abbrev pub LacksDigits : {A : Type 0} → (ℕ → A) → (radix n : ℕ) → Space → WriteError → Type 0
LacksDigits {A} item_of radix n s e = (xs : List A) × AreDigitsOf item_of radix n xs × LacksRoom (length xs) s e

-- decimal digits, after a minus if the number is negative: 45 is '-'
abbrev pub IsSigned : {A : Type 0} → (ℕ → A) → (negative : Bool) → ℕ → List A → Type 0
IsSigned item_of true n = Both (λ ys. ys ≡ item_of 45 ∷ []) (AreDigitsOf item_of 10 n)
IsSigned item_of false n = AreDigitsOf item_of 10 n

-- there is no room for the minus, or for the digits
abbrev pub LacksSigned : {A : Type 0} → (ℕ → A) → (negative : Bool) → ℕ → Space → WriteError → Type 0
LacksSigned item_of true n = BothFail (λ ys. ys ≡ item_of 45 ∷ []) (LacksRoom 1) (LacksDigits item_of 10 n)
LacksSigned item_of false n = LacksDigits item_of 10 n
