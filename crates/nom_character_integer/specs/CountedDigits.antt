-- Numbers that are written in a bounded count of digits, in any base.
use Rattle.std.specs.Prelude.{◌≡◌, ℕ, zero, suc, ◌-◌, ◌<◌, ◌≤◌, min, max, Bool, true, cond, ◌⊎◌, List, [], ◌∷◌, map, length, Some}
use Rattle.std.specs.Char.{is_digit}
use Rattle.std.specs.Str.Parse.{digits_value}
use Rattle.nom_error.specs.declared.kind.ErrorKind.TheVariants as Kind
use Rattle.nom_internal.specs.Prelude.{Errors, Model, items_len, Meaning, Leaf, leaf_meaning}

-- the digits of a base: '0' to '9', then the letters, in either case, of a value below it; there are none of a value above 35
abbrev pub is_digit_in : (base : ℕ) → ℕ → Bool
is_digit_in base c = is_digit c (min base 36)

-- A list of items is one of code points.
module _ {A : Type 0} (code : A → ℕ) (base : ℕ) where
  -- the longest front whose items are all digits of the base, of at most n items
  abbrev pub first_digits : (n : ℕ) → List A → List A
  first_digits zero xs = []
  first_digits (suc n) [] = []
  first_digits (suc n) (x ∷ xs) = cond (is_digit_in base (code x)) (x ∷ first_digits n xs) []

  -- the number that digits write
  abbrev pub number_of : List A → ℕ
  number_of xs = digits_value base (map code xs)

  -- n digits, or an item that is none follows
  abbrev pub AreEnded : (n : ℕ) → List A → Type 0
  AreEnded n xs = (length (first_digits n xs) ≡ n) ⊎ (length (first_digits n xs) < length xs)

module _ {I A : Type 0} (w : Model I A) (code : A → ℕ) (base m n greatest : ℕ) where
  -- At least m and at most n digits; the tree is their number. Refused is a number above the greatest, whatever follows it, and fewer digits. Where the
  -- input ends before n digits, more is needed: as many as are missing up to m, and 1 at least. It is `unfoldable`, so that a search for a composed
  -- parser's contract doesn't divide the digits of a written count into cases.
  unfoldable pub counted_digits : Leaf I ℕ
  counted_digits = record {
    Accepts = λ s i k v. let ds = first_digits code base n (w.elements i) in
        (m ≤ length ds) × (s ≡ true → AreEnded code base n (w.elements i)) × (k ≡ items_len w.item_len ds) × (v ≡ number_of code base ds) × (v ≤ greatest);
    Refuses = λ s i. let ds = first_digits code base n (w.elements i) in
        (greatest < number_of code base ds) ⊎ ((length ds < m) × (s ≡ true → AreEnded code base n (w.elements i)));
    Lacks = λ i k. let ds = first_digits code base n (w.elements i) in
        (number_of code base ds ≤ greatest) × (length ds < n) × (length ds ≡ length (w.elements i)) × (k ≡ Some (max 1 (m - length ds)));
  }

  abbrev pub digits_meaning : {E : Type 0} → Errors I E → Meaning I ℕ E
  digits_meaning errs = leaf_meaning (λ i. errs.of_kind i Kind.Digit) errs.grows counted_digits
