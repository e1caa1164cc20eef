-- Numbers below a tenth of the greatest one.
use Rattle.std.proofs.Common.{◌≡◌, ℕ, ◌+◌, ◌*◌, ◌<◌, ◌≤◌, ◌/◌, Option, Some, true, sym, subst, arith}
use Rattle.std.specs.Prelude.{ℤ, pos, negsuc, ◌≤ℤ◌, ◌<ℤ◌, ◌+ℤ◌, ◌*ℤ◌, int_div}
use Rattle.std.specs.Ordering.{int_cmp, partial_lt, MatchOrdering}
use Rattle.std.specs.declared.cmp.Ordering.{Ordering}
use Rattle.std.specs.declared.cmp.Ordering.TheVariants.{Less, Equal, Greater}
use Rattle.std.specs.Cmp.{int_ranks}
use Rattle.std.proofs.lemmas.Int.{ints}
use Rattle.nom_character_integer.specs.Integers.{IsRange}

tenth : (h n : ℕ) → n < h / 10 → 10 * n + 9 ≤ h
tenth h n l = omega (arith, l)

-- any digit may follow them
pub below_tenth : (high : ℤ) (n d : ℕ) → pos 0 ≤ℤ high → d < 10 → pos n <ℤ int_div high (pos 10) → pos (10 * n + d) ≤ℤ high
below_tenth (pos h) n d a b l = omega (arith, ints, tenth h n (omega (arith, ints, l)), b)
below_tenth (negsuc h) n d a b l = absurd (omega (arith, ints, a))

-- what a type's own order says of the integers
pub is_less : {T : Type 0} (order : T → T → Option Ordering) (a b : T) (x y : ℤ) → order a b ≡ Some (int_cmp x y) → partial_lt order a b ≡ true → x <ℤ y
is_less order a b x y o h = by (int_cmp x y) (int_ranks x y) o
  where
    by : (r : Ordering) → MatchOrdering r (x <ℤ y) (x ≡ y) (y <ℤ x) → order a b ≡ Some r → x <ℤ y
    by Less m e = m
    by Equal m e = absurd (cc (e, h))
    by Greater m e = absurd (cc (e, h))

-- a number from 0 up, which a type of numbers up to `high` has, and which is below a tenth of that
module _ {T : Type 0} (value : T → ℤ) (fits : ℤ → Type 0) (l : IsRange fits) (order : T → T → Option Ordering) (number tenth ten : T) (high : ℤ)
    (up : pos 0 ≤ℤ value number) (above : pos 0 ≤ℤ high) (has_high : fits high) (ranks : order number tenth ≡ Some (int_cmp (value number) (value tenth)))
    (tenth_is : value tenth ≡ int_div high (pos 10)) (ten_is : value ten ≡ pos 10) (below : partial_lt order number tenth ≡ true) where
  fits_digit : (v : ℤ) (d : ℕ) → pos 0 ≤ℤ v → v <ℤ int_div high (pos 10) → d < 10 → fits (v *ℤ pos 10 +ℤ pos d)
  fits_digit (pos n) d a b c =
      let is : pos n *ℤ pos 10 +ℤ pos d ≡ pos (10 * n + d) = omega (arith, ints) in
      subst fits (sym is) (l.between (pos 0) (pos (10 * n + d)) high l.zero has_high (omega (arith, ints)) (below_tenth high n d above c b))
  fits_digit (negsuc n) d a b c = absurd (omega (arith, ints, a))

  is_below : value number <ℤ int_div high (pos 10)
  is_below = subst (λ z. value number <ℤ z) tenth_is (is_less order number tenth (value number) (value tenth) ranks below)

  pub ten_times_fit : (one : T) (d : ℕ) → d < 10 → value one ≡ pos d → fits (value number *ℤ value ten) × fits (value number *ℤ value ten +ℤ value one)
  ten_times_fit one d c one_is =
      let is : value number *ℤ pos 10 +ℤ pos 0 ≡ value number *ℤ pos 10 = omega (arith, ints) in
      subst (λ t. fits (value number *ℤ t) × fits (value number *ℤ t +ℤ value one)) (sym ten_is) (
        subst fits is (fits_digit (value number) 0 up is_below (omega arith)),
        subst (λ o. fits (value number *ℤ pos 10 +ℤ o)) (sym one_is) (fits_digit (value number) d up is_below c),
      )
