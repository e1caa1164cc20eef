-- The digits of a number, from the first to the last.
use Rattle.std.proofs.Common.{arith, ◌≡◌, ℕ, zero, suc, ◌+◌, ◌*◌, ◌<◌, ◌≤◌, ◌/◌, ◌%◌, List, [], ◌∷◌, ◌++◌, length, length-append}
use Rattle.std.proofs.Common.{refl, sym, ◌∙◌, ap, subst}
use Rattle.std.proofs.lemmas.List.Elements.{All-append, All-nil, All-cons}
use Rattle.std.proofs.lemmas.List.{map-append}
use Rattle.std.proofs.lemmas.Nat.{mod_below}
use Rattle.std.proofs.Math.Nat.{div-add-mod, mod-eq_of_lt}
use Rattle.nom_internal.specs.Prelude.{value_more}
use Rattle.nom_sink.specs.Numerals.{AreDigitsOf, digit_code}

heads : {A : Type 0} (a b : A) (xs ys : List A) → a ∷ xs ≡ b ∷ ys → a ≡ b
heads a b xs ys e = cc (e)

-- of a number that isn't below the radix something is left without its last digit
left_over : (b n q r : ℕ) → b * q + r ≡ n → r < b → b ≤ n → 0 < q
left_over b n zero r e below h = absurd (omega (arith, e, below, h))
left_over b n (suc q) r e below h = omega arith

-- and that is less than the number
less : (b n q r : ℕ) → b * q + r ≡ n → 1 < b → 0 < q → q < n
less zero n q r e h some = absurd (omega (arith, h))
less (suc zero) n q r e h some = absurd (omega (arith, h))
less (suc (suc c)) n q r e h some = omega (arith, e, some, spread c q)
  where
    spread : (c q : ℕ) → suc (suc c) * q ≡ 2 * q + c * q
    spread c q = omega arith

pub some_left : (b n : ℕ) → 1 < b → b ≤ n → 0 < n / b
some_left b n h k = left_over b n (n / b) (n % b) (div-add-mod n b) (mod_below n b (omega (arith, h))) k

-- a zero that stands before one digit more stood first before
still_first : (xs ys : List ℕ) (d : ℕ) → 0 < length xs → xs ++ d ∷ [] ≡ 0 ∷ ys → (zs : List ℕ) × (xs ≡ 0 ∷ zs)
still_first [] ys d some e = absurd (omega (arith, some))
still_first (x ∷ xs) ys d some e = (xs, ap (λ z. z ∷ xs) (heads x 0 (xs ++ d ∷ []) ys e))

module _ {A : Type 0} (item_of : ℕ → A) where
  pub one_digit : (b n : ℕ) → n < b → AreDigitsOf item_of b n (item_of (digit_code (n % b)) ∷ [])
  one_digit b n h =
      let same : n % b ≡ n = mod-eq_of_lt h in
      record {
        digits = n % b ∷ [];
        items = refl;
        below = All-cons (λ d. d < b) (n % b) [] (omega (arith, same, h)) (All-nil (λ d. d < b));
        some = omega arith;
        number = omega (arith, same);
        none_before = λ k ds e. omega (arith, same, k, heads (n % b) 0 [] ds e);
        alone = λ e. ap (λ z. z ∷ []) {x = n % b} {y = 0} (omega (arith, same, e));
      }

  pub more_digits : (b n : ℕ) (xs : List A) → 1 < b → b ≤ n → AreDigitsOf item_of b (n / b) xs →
      AreDigitsOf item_of b n (xs ++ item_of (digit_code (n % b)) ∷ [])
  more_digits b n xs h k a = record {
    digits = a.digits ++ n % b ∷ [];
    items = ap (λ ys. ys ++ item_of (digit_code (n % b)) ∷ []) a.items ∙ sym (map-append (λ d. item_of (digit_code d)) a.digits (n % b ∷ []));
    below = All-append (λ d. d < b) a.digits (n % b ∷ []) a.below (All-cons (λ d. d < b) (n % b) [] (mod_below n b (omega (arith, h)))
        (All-nil (λ d. d < b)));
    some = omega (arith, a.some, length-append a.digits (n % b ∷ []));
    number = value_more b 0 (n % b) a.digits ∙ (ap (λ v. b * v + n % b) a.number ∙ div-add-mod n b);
    none_before = λ some ds e. let f = still_first a.digits ds (n % b) a.some e in a.none_before (some_left b n h k) f.0 f.1;
    alone = λ e. absurd (omega (arith, h, k, e));
  }

  -- the same, of a radix and a last digit that are known by equations
  pub with_last : (b n r : ℕ) (d : A) (xs : List A) → r ≡ b → d ≡ item_of (digit_code (n % b)) → 1 < b → b ≤ n →
      AreDigitsOf item_of b (n / r) xs → AreDigitsOf item_of b n (xs ++ d ∷ [])
  with_last b n r d xs e f h k a = subst (λ z. AreDigitsOf item_of b n (xs ++ z ∷ [])) (sym f)
      (more_digits b n xs h k (subst (λ z. AreDigitsOf item_of b (n / z) xs) e a))
