-- A number with its sign, and one more digit.
use Rattle.std.proofs.Common.{◌≡◌, ℕ, ◌+◌, ◌*◌, Bool, true, false, Option, Some, suc, zero, refl, sym, ◌∙◌, ap, subst, arith}
use Rattle.std.specs.Prelude.{ℤ, pos, ◌+ℤ◌, ◌-ℤ◌, ◌*ℤ◌}
use Rattle.std.proofs.lemmas.Int.{ints}
use Rattle.num_traits.specs.Laws.{Checks}
use Rattle.nom_character_integer.specs.Integers.{with_sign, IsRange}
use Rattle.nom_character_integer.specs.laws.IntegerLaws.{nearer}

ten_times : (negative : Bool) (n : ℕ) → with_sign negative n *ℤ pos 10 ≡ with_sign negative (10 * n)
ten_times true zero = refl
ten_times true (suc n) = omega (arith, ints)
ten_times false n = omega (arith, ints)

less : (n d : ℕ) → with_sign true n -ℤ pos d ≡ with_sign true (n + d)
less n d = omega (arith, ints)

more : (n d : ℕ) → with_sign false n +ℤ pos d ≡ with_sign false (n + d)
more n d = omega (arith, ints)

module _ {T : Type 0} (value : T → ℤ) (fits : ℤ → Type 0) (l : IsRange fits) (negative : Bool) (number ten : T) (n d : ℕ)
    (is : value number ≡ with_sign negative n) (ten_is : value ten ≡ pos 10) where
  tens_are : value number *ℤ value ten ≡ with_sign negative (10 * n)
  tens_are = ap (λ z. z *ℤ value ten) is ∙ (ap (λ z. with_sign negative n *ℤ z) ten_is ∙ ten_times negative n)

  -- where the tens don't fit, nor does the number
  pub no_tens : ¬ (fits (value number *ℤ value ten)) → ¬ (fits (with_sign negative (10 * n + d)))
  no_tens h f = h (subst fits (sym tens_are) (nearer fits l negative (10 * n) (10 * n + d) (omega arith) f))

  module _ (one : T) (one_is : value one ≡ pos d) where
    sum_is : negative ≡ false → value number *ℤ value ten +ℤ value one ≡ with_sign negative (10 * n + d)
    sum_is e =
        let a : value number *ℤ value ten ≡ with_sign false (10 * n) = tens_are ∙ ap (λ b. with_sign b (10 * n)) e in
        ap (λ z. z +ℤ value one) a ∙ (ap (λ z. with_sign false (10 * n) +ℤ z) one_is ∙ (more (10 * n) d ∙ ap (λ b. with_sign b (10 * n + d)) (sym e)))

    -- the sum, which the type has
    pub one_digit_more : negative ≡ false → (sum : T) → fits (value sum) → value sum ≡ value number *ℤ value ten +ℤ value one →
        Checks value fits (with_sign negative (10 * n + d)) (Some sum)
    one_digit_more e sum has is = (subst fits (is ∙ sum_is e) has, is ∙ sum_is e)

  module _ (tens one : T) (tens_is : value tens ≡ value number *ℤ value ten) (one_is : value one ≡ pos d) (r : Option T) where
    pub one_less : negative ≡ true → Checks value fits (value tens -ℤ value one) r → Checks value fits (with_sign negative (10 * n + d)) r
    one_less e h = subst (λ z. Checks value fits z r) same h
      where
        same : value tens -ℤ value one ≡ with_sign negative (10 * n + d)
        same =
            let a : value tens ≡ with_sign true (10 * n) = tens_is ∙ (tens_are ∙ ap (λ b. with_sign b (10 * n)) e) in
            ap (λ z. z -ℤ value one) a ∙ (ap (λ z. with_sign true (10 * n) -ℤ z) one_is ∙ (less (10 * n) d ∙ ap (λ b. with_sign b (10 * n + d)) (sym e)))

    pub one_more : negative ≡ false → Checks value fits (value tens +ℤ value one) r → Checks value fits (with_sign negative (10 * n + d)) r
    one_more e h = subst (λ z. Checks value fits z r) (ap (λ z. z +ℤ value one) tens_is ∙ sum_is one one_is e) h
