-- The number that bytes write, byte by byte.
use Rattle.std.proofs.Common.{◌≡◌, ℕ, ◌<◌, ◌≤◌, ◌+◌, ◌*◌, ◌^◌, suc, zero, List, [], ◌∷◌, ◌++◌, length, reverse, Option, Some, None}
use Rattle.std.proofs.Common.{refl, sym, ◌∙◌, ap, subst, arith, append_assoc, append-nil, length-append}
use Rattle.std.specs.Iterator.{AlwaysYields}
use Rattle.std.proofs.lemmas.List.{reverse-append, length-reverse}
use Rattle.std.proofs.lemmas.Nat.{pow-add}
use Rattle.std.proofs.Math.Nat.{pow-suc, mul-le-mul}
use Rattle.std.proofs.Math.Pow.{pow_mono}
use Rattle.nom_internal.specs.Prelude.{digits_after, value_of, value_more}
use Rattle.nom_number.specs.declared.order.Endianness.{Endianness}
use Rattle.nom_number.specs.declared.order.Endianness.TheVariants.{Big, Little, Native}
use Rattle.nom_number.specs.Numbers.{binary_number}

-- what iterates over the bytes xs has given n of them, which write the number
pub record IsSummed {S : Type 0} (endian : Endianness) (steps : S → Option ℕ → S → Type 0) (xs : List ℕ) (n number : ℕ) (s : S) : Type 0 where
  pub passed : List ℕ
  pub rest : List ℕ
  pub whole : xs ≡ passed ++ rest
  pub gives : AlwaysYields steps (λ x. x) s rest
  pub count_is : length passed ≡ n
  pub number_is : number ≡ binary_number endian passed
  pub below : number < 2 ^ (8 * n)

-- one more byte
pub one_byte : (n : ℕ) → 2 ^ (8 * (n + 1)) ≡ 256 * 2 ^ (8 * n)
one_byte n = ap (λ k. 2 ^ k) eight ∙ pow-add 2 8 (8 * n)
  where
    eight : 8 * (n + 1) ≡ 8 + 8 * n
    eight = omega arith

pub sixteen : (n : ℕ) → n < 16 → 2 ^ (8 * (n + 1)) ≤ 2 ^ 128
sixteen n h = pow_mono {i = 8 * (n + 1)} {j = 128} (omega (arith, h))

as_power : (k : ℕ) → 256 ^ k ≡ 2 ^ (8 * k)
as_power zero = refl
as_power (suc k) = pow-suc 256 k ∙ (omega (arith, as_power k, one_byte k) ∙ ap (λ m. 2 ^ (8 * m)) one)
  where
    one : k + 1 ≡ suc k
    one = omega arith

spread : (v d p : ℕ) → (256 * v + d) * p ≡ v * (p * 256) + d * p
spread v d p = omega arith

after_step : (v d p q x y z : ℕ) → x ≡ (256 * v + d) * p + z → y ≡ (256 * 0 + d) * p + z → q ≡ p * 256 → x ≡ v * q + y
after_step v d p q x y z h k e = omega (arith, h, k, spread v d p, ap (λ m. v * m) e)

-- the digits after a number add theirs
after : (v : ℕ) (ds : List ℕ) → digits_after 256 v ds ≡ v * 256 ^ length ds + value_of 256 ds
after v [] = omega arith
after v (d ∷ ds) = after_step v d (256 ^ length ds) (256 ^ suc (length ds)) _ _ (value_of 256 ds) (after (256 * v + d) ds) (after (256 * 0 + d) ds)
    (pow-suc 256 (length ds))

-- bytes, and one more that is lower than all: it is their number's lowest digit
big_more : (passed : List ℕ) (x : ℕ) → binary_number Big (passed ++ x ∷ []) ≡ 256 * binary_number Big passed + x
big_more passed x = value_more 256 0 x passed

-- and one that is higher than all
little_more : (passed : List ℕ) (x : ℕ) → binary_number Little (passed ++ x ∷ []) ≡ binary_number Little passed + x * 2 ^ (8 * length passed)
little_more passed x = ap (value_of 256) (reverse-append passed (x ∷ [])) ∙ (after (256 * 0 + x) (reverse passed) ∙ omega (arith, width))
  where
    width : x * 256 ^ length (reverse passed) ≡ x * 2 ^ (8 * length passed)
    width = ap (λ k. x * 256 ^ k) (length-reverse passed) ∙ ap (λ p. x * p) (as_power (length passed))

-- what an iterator that has some items left gives next
next_given : {S : Type 0} (steps : S → Option ℕ → S → Type 0) (s t : S) (x : ℕ) (xs : List ℕ) → AlwaysYields steps (λ x. x) s xs → steps s (Some x) t →
    (ys : List ℕ) × (xs ≡ x ∷ ys) × AlwaysYields steps (λ x. x) t ys
next_given steps s t x [] h k = absurd (h x t k)
next_given steps s t x (y ∷ ys) h k = (ys, ap (λ z. z ∷ ys) (sym (h.1 x t k).0), (h.1 x t k).1)

none_left : {S : Type 0} (steps : S → Option ℕ → S → Type 0) (s t : S) (xs : List ℕ) → AlwaysYields steps (λ x. x) s xs → steps s None t → xs ≡ []
none_left steps s t [] h k = refl
none_left steps s t (y ∷ ys) h k = absurd (h.0 t k)

module _ {S : Type 0} (endian : Endianness) (steps : S → Option ℕ → S → Type 0) (xs : List ℕ) where
  pub begins : (s : S) → AlwaysYields steps (λ x. x) s xs → IsSummed endian steps xs 0 0 s
  begins s h =
      let none = elim endian as (λ e. 0 ≡ binary_number e []) [ Big ↦ refl | Little ↦ refl | Native ↦ refl ] in
      record { passed = []; rest = xs; whole = refl; gives = h; count_is = refl; number_is = none; below = omega arith }

  module _ (n number : ℕ) (s t : S) (r : IsSummed endian steps xs n number s) where
    -- all are given
    pub ends : steps s None t → (number ≡ binary_number endian xs) × (number < 2 ^ (8 * length xs))
    ends k =
        let whole : xs ≡ r.passed = r.whole ∙ (ap (λ ys. r.passed ++ ys) (none_left steps s t r.rest r.gives k) ∙ append-nil r.passed) in
        (r.number_is ∙ ap (binary_number endian) (sym whole), subst (λ m. number < 2 ^ (8 * m)) (sym r.count_is ∙ ap length (sym whole)) r.below)

    module _ (x : ℕ) (k : steps s (Some x) t) where
      next : (ys : List ℕ) × (r.rest ≡ x ∷ ys) × AlwaysYields steps (λ x. x) t ys
      next = next_given steps s t x r.rest r.gives k

      whole_next : xs ≡ r.passed ++ (x ∷ next.0)
      whole_next = r.whole ∙ ap (λ ys. r.passed ++ ys) next.1

      -- there is a place for one more
      pub one_left : n < length xs
      one_left = omega (arith, r.count_is, ap length whole_next, length-append r.passed (x ∷ next.0))

      pub goes_on : (more : ℕ) → more ≡ binary_number endian (r.passed ++ x ∷ []) → more < 2 ^ (8 * (n + 1)) → IsSummed endian steps xs (n + 1) more t
      goes_on more e b = record {
        passed = r.passed ++ x ∷ [];
        rest = next.0;
        whole = whole_next ∙ sym (append_assoc r.passed (x ∷ []) next.0);
        gives = next.2;
        count_is = omega (arith, r.count_is, length-append r.passed (x ∷ []));
        number_is = e;
        below = b;
      }

-- the highest byte first
module _ {S : Type 0} (steps : S → Option ℕ → S → Type 0) (xs : List ℕ) (n number : ℕ) (s t : S) (r : IsSummed Big steps xs n number s) (x : ℕ)
    (byte : x < 256) (k : steps s (Some x) t) where
  big_below : 256 * number + x < 2 ^ (8 * (n + 1))
  big_below = omega (arith, byte, r.below, one_byte n)

  pub big_fits : length xs < 17 → 256 * number + x < 2 ^ 128
  big_fits h = omega (arith, big_below, sixteen n (omega (arith, h, one_left Big steps xs n number s t r x k)))

  pub big_goes_on : IsSummed Big steps xs (n + 1) (256 * number + x) t
  big_goes_on = goes_on Big steps xs n number s t r x k (256 * number + x) (ap (λ m. 256 * m + x) r.number_is ∙ sym (big_more r.passed x)) big_below

-- a byte above a number
within : (v x p : ℕ) → v < p → x < 256 → v + x * p < 256 * p
within v x p h b = omega (arith, h, most)
  where
    most : x * p ≤ 255 * p
    most = mul-le-mul {n₁ = x} {m₁ = p} {n₂ = 255} {m₂ = p} (omega (arith, b)) (omega arith)

-- the highest byte last
module _ {S : Type 0} (steps : S → Option ℕ → S → Type 0) (xs : List ℕ) (n number : ℕ) (s t : S) (r : IsSummed Little steps xs n number s) (x : ℕ)
    (byte : x < 256) (k : steps s (Some x) t) where
  little_below : number + x * 2 ^ (8 * n) < 2 ^ (8 * (n + 1))
  little_below = subst (λ p. number + x * 2 ^ (8 * n) < p) (sym (one_byte n)) (within number x (2 ^ (8 * n)) r.below byte)

  pub little_fits : length xs < 17 → number + x * 2 ^ (8 * n) < 2 ^ 128
  little_fits h = omega (arith, little_below, sixteen n (omega (arith, h, one_left Little steps xs n number s t r x k)))

  pub little_goes_on : IsSummed Little steps xs (n + 1) (number + x * 2 ^ (8 * n)) t
  little_goes_on = goes_on Little steps xs n number s t r x k (number + x * 2 ^ (8 * n))
      (ap (λ m. m + x * 2 ^ (8 * n)) r.number_is ∙
      (ap (λ m. binary_number Little r.passed + x * 2 ^ (8 * m)) (sym r.count_is) ∙ sym (little_more r.passed x))) little_below
