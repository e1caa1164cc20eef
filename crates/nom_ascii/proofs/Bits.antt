-- Which bits the masks of sets have.
use Rattle.std.proofs.Common.{◌≡◌, ℕ, ◌+◌, ◌-◌, ◌/◌, ◌%◌, ◌^◌, ◌<◌, ◌≤◌, max, min}
use Rattle.std.proofs.Common.{Bool, IsTrue, ◌↔◌, true, false, not, ◌&&◌, ◌||◌, ◌==◌, nat_lt, nat_le}
use Rattle.std.proofs.Common.{List, [], ◌∷◌, fold, refl, sym, subst, ap, ◌∙◌, inl, inr, arith}
use Rattle.std.proofs.Common.{ltb-true, ltb-false, lt-ltb, le-ltb, eq-eqb, ne_eqb, bit_and, bit_or}
use Rattle.std.specs.Int.{bit_at, bit_not, w128}
use Rattle.std.specs.List.{list_any}
use Rattle.std.specs.Char.{is_ascii_alphabetic, is_ascii_alphanumeric, is_ascii_digit}
use Rattle.std.proofs.lemmas.Bool.{cases_eq, cases_Bool}
use Rattle.std.proofs.lemmas.Bool.Decides.{nat_tests}
use Rattle.std.proofs.lemmas.Nat.{pow_pos, shr-shr}
use Rattle.std.proofs.lemmas.Nat.Bits.{bit_at-zero, bit_at_and, bit_at_or, bit_at_not, bit_at_ones, bit_at-pow_same, bit_at-pow_other, shr_and_one}
use Rattle.std.proofs.lemmas.Nat.Bits.{bit_at_mask_inside, bit_at_mask_below, bit_at_mask_above}
use Rattle.nom_ascii.specs.declared.AsciiSet.{AsciiSet}
use Rattle.nom_ascii.specs.Sets.{Held, alphanumerics, alphas, ascii_below, and_of, digits, holds, except_of, set_of, span_of, with_code}

-- a bit is 0 or 1
small : (n i : ℕ) → bit_at n i ≤ 1
small n i = omega arith

either_bit : (x y : ℕ) → x ≤ 1 → y ≤ 1 → (max x y == 1) ≡ (x == 1 || y == 1)
either_bit x y p q = grind (arith, nat_tests)

both_bits : (x y : ℕ) → x ≤ 1 → y ≤ 1 → (min x (1 - y) == 1) ≡ (x == 1 && not (y == 1))
both_bits x y p q = grind (arith, nat_tests)

-- one more code: its own bit, and those before
one_more : (mask code i : ℕ) → i < 128 → (bit_at (with_code mask code) i == 1) ≡ (bit_at mask i == 1 || code == i)
one_more mask code i within = elim (cases_eq i code) [
  | inl same ↦
      let is_small : nat_lt code 128 ≡ true = lt-ltb code 128 (rw same at within) in
      let bit : bit_at (bit_or mask (2 ^ code)) i ≡ 1 = rw same (omega (arith, bit_at_or mask (2 ^ code) code, bit_at-pow_same code, small mask code)) in
      rw (is_small, bit, eq-eqb code i (sym same)) (grind arith)
  | inr other ↦
      let apart : (code == i) ≡ false = ne_eqb code i (λ e. other (sym e)) in
      let bit : bit_at (bit_or mask (2 ^ code)) i ≡ bit_at mask i = omega (arith, bit_at_or mask (2 ^ code) i, bit_at-pow_other code i other) in
      elim (cases_Bool (nat_lt code 128)) [
        | inl is_small ↦ rw (is_small, bit, apart) (grind arith)
        | inr is_large ↦ rw (is_large, apart) (grind arith)
      ]
]

-- a list's codes
with_codes : (mask : ℕ) (codes : List ℕ) (i : ℕ) → i < 128 → (bit_at (fold with_code mask codes) i == 1) ≡ (bit_at mask i == 1 || list_any (λ c. c == i) codes)
with_codes mask [] i within = grind arith
with_codes mask (c ∷ cs) i within = with_codes (with_code mask c) cs i within ∙ rw (one_more mask c i within) (grind arith)

set_holds : (codes : List ℕ) (i : ℕ) → holds (set_of codes) i ≡ (nat_lt i 128 && list_any (λ c. c == i) codes)
unfolding holds set_of
set_holds codes i = elim (cases_Bool (nat_lt i 128)) [
  | inl within ↦ rw (within, with_codes 0 codes i (ltb-true i 128 within), bit_at-zero i) (grind arith)
  | inr beyond ↦ rw beyond refl
]

pub set_has : (codes : List ℕ) (s : AsciiSet) → s ≡ set_of codes → (i : ℕ) → holds s i ≡ (nat_lt i 128 && list_any (λ c. c == i) codes)
set_has codes s is i = ap (λ t. holds t i) is ∙ set_holds codes i

pub and_holds : (set other : AsciiSet) (i : ℕ) → holds (and_of set other) i ≡ (holds set i || holds other i)
unfolding holds and_of
and_holds set other i =
    let bit = ap (λ x. x == 1) (bit_at_or set.mask other.mask i) ∙ either_bit _ _ (small set.mask i) (small other.mask i) in
    elim (cases_Bool (nat_lt i 128)) [
      | inl within ↦ rw (within, bit) refl
      | inr beyond ↦ rw beyond refl
    ]

pub except_holds : (set other : AsciiSet) → other.mask < 2 ^ 128 → (i : ℕ) → holds (except_of set other) i ≡ (holds set i && not (holds other i))
unfolding holds except_of
except_holds set other fits i = elim (cases_Bool (nat_lt i 128)) [
  | inl within ↦
      let flipped = bit_at_not w128 other.mask i fits (ltb-true i 128 within) in
      let bit = ap (λ x. x == 1) (bit_at_and set.mask (bit_not w128 other.mask) i ∙ ap (min (bit_at set.mask i)) flipped)
      ∙ both_bits _ _ (small set.mask i) (small other.mask i) in
      rw (within, bit) refl
  | inr beyond ↦ rw beyond refl
]

-- a run of ones
run : (low high : ℕ) → (2 ^ high - 1) - (2 ^ low - 1) ≡ 2 ^ high - 2 ^ low
run low high = omega (arith, pow_pos low, pow_pos high)

run_bit : (low high i : ℕ) → (bit_at ((2 ^ high - 1) - (2 ^ low - 1)) i == 1) ≡ (nat_le low i && nat_lt i high)
run_bit low high i = elim (cases_Bool (nat_lt i low)) [
  | inl below ↦
      let under = ltb-true i low below in
      rw (run low high, bit_at_mask_below low high i under) (grind (arith, nat_tests))
  | inr not_below ↦
      let from = ltb-false i low not_below in
      elim (cases_Bool (nat_lt i high)) [
        | inl within ↦ rw (run low high, bit_at_mask_inside low high i from (ltb-true i high within)) (grind (arith, nat_tests))
        | inr beyond ↦ rw (run low high, bit_at_mask_above low high i (ltb-false i high beyond)) (grind (arith, nat_tests))
      ]
]

-- of ASCII codes, those below a number
below_as : (n i : ℕ) → i < 128 → nat_lt i (ascii_below n) ≡ nat_lt i n
below_as n i within = elim (cases_Bool (nat_lt n 128)) [
  | inl is_small ↦ rw is_small refl
  | inr is_large ↦
      let from = ltb-false n 128 is_large in
      rw is_large (lt-ltb i 128 within ∙ sym (lt-ltb i n (omega arith)))
]

above_as : (n i : ℕ) → i < 128 → nat_le (ascii_below n) i ≡ nat_le n i
above_as n i within = elim (cases_Bool (nat_lt n 128)) [
  | inl is_small ↦ rw is_small refl
  | inr is_large ↦
      let from = ltb-false n 128 is_large in
      rw is_large (grind (arith, nat_tests))
]

span_holds : (first last i : ℕ) → holds (span_of first last) i ≡ (nat_lt i 128 && nat_le first i && nat_le i last)
unfolding holds span_of
span_holds first last i = elim (cases_Bool (nat_lt i 128)) [
  | inl within ↦
      let lt = ltb-true i 128 within in
      rw (within, run_bit (ascii_below first) (ascii_below (last + 1)) i, above_as first i lt, below_as (last + 1) i lt) (grind (arith, nat_tests))
  | inr beyond ↦ rw beyond refl
]

pub span_has : (first last : ℕ) (s : AsciiSet) → s ≡ span_of first last → (i : ℕ) → holds s i ≡ (nat_lt i 128 && nat_le first i && nat_le i last)
span_has first last s is i = ap (λ t. holds t i) is ∙ span_holds first last i

-- the bit of a code in its half of a mask
pub half_holds : (set : AsciiSet) (half i : ℕ) → i < 128 → bit_at half (i % 64) ≡ bit_at set.mask i →
    (bit_and (half / 2 ^ (i % 64)) 1 == 1) ≡ holds set i
unfolding holds
half_holds set half i within same = rw (lt-ltb i 128 within) (ap (λ x. x == 1) (shr_and_one half (i % 64) ∙ same))

pub low_half : (m i : ℕ) → i < 64 → bit_at (bit_and m (2 ^ 64 - 1)) (i % 64) ≡ bit_at m i
low_half m i low =
    let place : i % 64 ≡ i = omega (arith, low) in
    let bit = small m i in
    ap (bit_at (bit_and m (2 ^ 64 - 1))) place ∙ (bit_at_and m (2 ^ 64 - 1) i ∙ (ap (min (bit_at m i)) (bit_at_ones 64 i low) ∙ omega (arith, bit)))

pub high_half : (m i : ℕ) → 64 ≤ i → i < 128 → bit_at (m / 2 ^ 64) (i % 64) ≡ bit_at m i
high_half m i high within =
    let place : i % 64 ≡ i - 64 = omega (arith, high, within) in
    let sum : 64 + (i - 64) ≡ i = omega (arith, high) in
    ap (bit_at (m / 2 ^ 64)) place ∙ ap (λ x. x % 2) (shr-shr m 64 (i - 64) ∙ ap (λ k. m / 2 ^ k) sum)

-- no code beyond ASCII
pub none_beyond : (set : AsciiSet) (i : ℕ) → 128 ≤ i → false ≡ holds set i
unfolding holds
none_beyond set i beyond = rw (le-ltb i 128 beyond) refl

-- the classes
alphas_hold : (i : ℕ) → holds alphas i ≡ is_ascii_alphabetic i
unfolding alphas
alphas_hold i = and_holds (span_of 97 122) (span_of 65 90) i ∙ rw (span_holds 97 122 i, span_holds 65 90 i) (grind (arith, nat_tests))

digits_hold : (i : ℕ) → holds digits i ≡ is_ascii_digit i
unfolding digits
digits_hold i = span_holds 48 57 i ∙ grind (arith, nat_tests)

alphanumerics_hold : (i : ℕ) → holds alphanumerics i ≡ is_ascii_alphanumeric i
unfolding alphanumerics
alphanumerics_hold i = and_holds alphas digits i ∙ rw (alphas_hold i, digits_hold i) (grind (arith, nat_tests))

pub alphas_have : (s : AsciiSet) → s ≡ alphas → (i : ℕ) → holds s i ≡ is_ascii_alphabetic i
alphas_have s is i = ap (λ t. holds t i) is ∙ alphas_hold i

pub digits_have : (s : AsciiSet) → s ≡ digits → (i : ℕ) → holds s i ≡ is_ascii_digit i
digits_have s is i = ap (λ t. holds t i) is ∙ digits_hold i

pub alphanumerics_have : (s : AsciiSet) → s ≡ alphanumerics → (i : ℕ) → holds s i ≡ is_ascii_alphanumeric i
alphanumerics_have s is i = ap (λ t. holds t i) is ∙ alphanumerics_hold i

-- what a test of an item shows
pub held : (set : AsciiSet) (i : ℕ) (b : Bool) → b ≡ holds set i → IsTrue b ↔ Held set i
unfolding Held
held set i b is = (λ t. subst IsTrue is t, λ t. subst IsTrue (sym is) t)
