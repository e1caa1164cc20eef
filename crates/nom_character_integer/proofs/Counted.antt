-- Digits that are read one by one, up to a count.
use Rattle.std.proofs.Common.{◌≡◌, ℕ, zero, suc, ◌+◌, ◌*◌, ◌<◌, ◌≤◌, Bool, true, false, cond, Option, Some, None, List, [], ◌∷◌, ◌++◌, map, length, refl}
use Rattle.std.proofs.Common.{sym, ◌∙◌}
use Rattle.std.proofs.Common.{ap, arith, append_assoc, append-nil, length-append, inl, inr}
use Rattle.std.specs.Char.{digit_value}
use Rattle.std.specs.Iterator.{AlwaysYields}
use Rattle.std.specs.Str.Parse.{digits_value_after}
use Rattle.std.proofs.lemmas.List.{map-append}
use Rattle.nom_internal.specs.Prelude.{Model, items_len, input_len, items_len-append}
use Rattle.nom_character_first.proofs.Firsts.{some_given, none_given}
use Rattle.nom_character_integer.specs.CountedDigits.{is_digit_in, first_digits, number_of, AreEnded}
use Rattle.nom_character_integer.specs.CountedRead.{IsRun, IsTooGreat}
use Rattle.nom_character_integer.specs.laws.DigitsLaws.{digits_grow}

module _ {A : Type 0} (code : A → ℕ) (base : ℕ) where
  none_of_none : (n : ℕ) → first_digits code base n [] ≡ []
  none_of_none zero = refl
  none_of_none (suc n) = refl

  none_before : (n : ℕ) (x : A) (xs : List A) → is_digit_in base (code x) ≡ false → first_digits code base n (x ∷ xs) ≡ []
  none_before zero x xs e = refl
  none_before (suc n) x xs e = ap (λ b. cond b (x ∷ first_digits code base n xs) []) e

  one_before : (n : ℕ) (x : A) (xs : List A) → is_digit_in base (code x) ≡ true → first_digits code base (suc n) (x ∷ xs) ≡ x ∷ first_digits code base n xs
  one_before n x xs e = ap (λ b. cond b (x ∷ first_digits code base n xs) []) e

  value_append : (v : ℕ) (cs ds : List ℕ) → digits_value_after base v (cs ++ ds) ≡ digits_value_after base (digits_value_after base v cs) ds
  value_append v [] ds = refl
  value_append v (c ∷ cs) ds = value_append (v * base + digit_value c) cs ds

  number_append : (xs ys : List A) → number_of code base (xs ++ ys) ≡ digits_value_after base (number_of code base xs) (map code ys)
  number_append xs ys = ap (digits_value_after base 0) (map-append code xs ys) ∙ value_append 0 (map code xs) (map code ys)

module _ {I A : Type 0} (w : Model I A) (code : A → ℕ) (base n greatest : ℕ) where
  -- of no digits
  pub no_run : (i : I) → n ≡ 0 → IsRun w code base n greatest i (record { value = 0; length = 0; count = 0; ended = true })
  no_run i e =
      let none : first_digits code base n (w.elements i) ≡ [] = ap (λ m. first_digits code base m (w.elements i)) e in
      record {
        count_is = sym (ap length none);
        length_is = sym (ap (items_len w.item_len) none);
        value_is = sym (ap (number_of code base) none);
        fits = omega arith;
        ended_is = λ _. inl (ap length none ∙ sym e);
        open_is = λ h. absurd (cc (h));
      }

module _ {I A S : Type 0} (w : Model I A) (code : A → ℕ) (base n greatest : ℕ) (steps : S → Option A → S → Type 0) where
  -- the digits that were passed, with their number, their length and their count; s gives the other items
  pub record IsPassing (i : I) (value len count : ℕ) (s : S) : Type 0 where
    pub passed : List A
    pub rest : List A
    pub left : ℕ
    pub whole : w.elements i ≡ passed ++ rest
    pub first_are : first_digits code base n (w.elements i) ≡ passed ++ first_digits code base left rest
    pub count_is : count ≡ length passed
    pub left_is : left + count ≡ n
    pub length_is : len ≡ items_len w.item_len passed
    pub value_is : value ≡ number_of code base passed
    pub fits : value ≤ greatest
    pub gives : AlwaysYields steps (λ x. x) s rest

  pub passing_begins : (i : I) (s : S) → AlwaysYields steps (λ x. x) s (w.elements i) → IsPassing i 0 0 0 s
  passing_begins i s h = record {
    passed = [];
    rest = w.elements i;
    left = n;
    whole = refl;
    first_are = refl;
    count_is = refl;
    left_is = omega arith;
    length_is = refl;
    value_is = refl;
    fits = omega arith;
    gives = h;
  }

  module _ (i : I) (value len count : ℕ) (s : S) (r : IsPassing i value len count s) where
    -- the digits that were passed are all
    all_passed : (ended : Bool) → first_digits code base n (w.elements i) ≡ r.passed → (ended ≡ true → AreEnded code base n (w.elements i)) →
        (ended ≡ false → (count < n) × (count ≡ length (w.elements i))) →
        IsRun w code base n greatest i (record { value = value; length = len; count = count; ended = ended })
    all_passed ended e is isnt = record {
      count_is = r.count_is ∙ ap length (sym e);
      length_is = r.length_is ∙ ap (items_len w.item_len) (sym e);
      value_is = r.value_is ∙ ap (number_of code base) (sym e);
      fits = r.fits;
      ended_is = is;
      open_is = isnt;
    }

    -- as many are passed as may be
    pub passing_full : count ≡ n → IsRun w code base n greatest i (record { value = value; length = len; count = count; ended = true })
    passing_full h =
        let digits : first_digits code base n (w.elements i) ≡ r.passed =
        r.first_are ∙ (ap (λ m. r.passed ++ first_digits code base m r.rest) (none r.left r.left_is) ∙ append-nil r.passed) in
        all_passed true digits (λ _. inl (ap length digits ∙ (sym r.count_is ∙ h))) (λ e. absurd (cc (e)))
      where
        none : (m : ℕ) → m + count ≡ n → m ≡ 0
        none zero e = refl
        none (suc m) e = absurd (omega (arith, e, h))

    module _ (t : S) where
      -- nothing is left
      pub passing_ends : steps s None t → count < n → IsRun w code base n greatest i (record { value = value; length = len; count = count; ended = false })
      passing_ends g below =
          let none = none_given steps s t r.rest r.gives g in
          let all : w.elements i ≡ r.passed = r.whole ∙ (ap (λ xs. r.passed ++ xs) none ∙ append-nil r.passed) in
          let digits : first_digits code base n (w.elements i) ≡ r.passed =
          r.first_are ∙ (ap (λ xs. r.passed ++ first_digits code base r.left xs) none ∙ (ap (λ xs. r.passed ++ xs) (none_of_none code base r.left) ∙
          append-nil r.passed)) in
          all_passed false digits (λ e. absurd (cc (e))) (λ _. (below, r.count_is ∙ ap length (sym all)))

      module _ (x : A) (g : steps s (Some x) t) where
        next : (xs : List A) × (r.rest ≡ x ∷ xs) × AlwaysYields steps (λ q. q) t xs
        next = some_given steps s t x r.rest r.gives g

        pub passing_length : (k : ℕ) → k ≡ w.item_len x → len + k ≤ input_len w i
        passing_length k e =
            omega (
              arith,
              e,
              r.length_is,
              ap (items_len w.item_len) (r.whole ∙ ap (λ xs. r.passed ++ xs) next.1),
              items_len-append w.item_len r.passed (x ∷ next.0),
            )

        -- the next item is no digit
        pub passing_stops : is_digit_in base (code x) ≡ false →
            IsRun w code base n greatest i (record { value = value; length = len; count = count; ended = true })
        passing_stops h =
            let digits : first_digits code base n (w.elements i) ≡ r.passed =
            r.first_are ∙ (ap (λ xs. r.passed ++ first_digits code base r.left xs) next.1 ∙ (
            ap (λ xs. r.passed ++ xs) (none_before code base r.left x next.0 h) ∙ append-nil r.passed)) in
            all_passed true digits (λ _. inr (omega
            (arith, ap length digits, ap length r.whole, ap length next.1, length-append r.passed r.rest))) (λ e. absurd (cc (e)))

        module _ (h : is_digit_in base (code x) ≡ true) (below : count < n) where
          left_of : (left : ℕ) → left + count ≡ n → (m : ℕ) × (left ≡ suc m)
          left_of zero e = absurd (omega (arith, e, below))
          left_of (suc m) e = (m, refl)

          left : (m : ℕ) × (r.left ≡ suc m)
          left = left_of r.left r.left_is

          passes : first_digits code base n (w.elements i) ≡ (r.passed ++ (x ∷ [])) ++ first_digits code base left.0 next.0
          passes =
              r.first_are ∙ (
              ap (λ xs. r.passed ++ first_digits code base r.left xs) next.1 ∙ (
              ap (λ m. r.passed ++ first_digits code base m (x ∷ next.0)) left.1 ∙ (
              ap (λ xs. r.passed ++ xs) (one_before code base left.0 x next.0 h) ∙ sym (append_assoc r.passed (x ∷ []) (first_digits code base left.0 next.0))
              )))

          longer : number_of code base (r.passed ++ (x ∷ [])) ≡ value * base + digit_value (code x)
          longer = number_append code base r.passed (x ∷ []) ∙ ap (λ v. v * base + digit_value (code x)) (sym r.value_is)

          -- the number with the next digit is too great, so that of all digits is
          pub passing_too_great : (d : ℕ) → d ≡ digit_value (code x) → greatest < value * base + d → IsTooGreat w code base n greatest i
          passing_too_great d e u =
              let xs = r.passed ++ (x ∷ []) in
              let all : number_of code base (first_digits code base n (w.elements i)) ≡
              digits_value_after base (number_of code base xs) (map code (first_digits code base left.0 next.0)) =
              ap (number_of code base) passes ∙ number_append code base xs (first_digits code base left.0 next.0) in
              omega (arith, u, ap (λ v. value * base + v) e, longer, all, digits_grow code base (number_of code base xs) left.0 next.0)

          pub passing_goes_on : (d more k : ℕ) → d ≡ digit_value (code x) → more ≡ value * base + d → more ≤ greatest → k ≡ w.item_len x →
              IsPassing i more (len + k) (count + 1) t
          passing_goes_on d more k e f fit len_is = record {
            passed = r.passed ++ (x ∷ []);
            rest = next.0;
            left = left.0;
            whole = r.whole ∙ (ap (λ xs. r.passed ++ xs) next.1 ∙ sym (append_assoc r.passed (x ∷ []) next.0));
            first_are = passes;
            count_is = omega (arith, r.count_is, length-append r.passed (x ∷ []));
            left_is = omega (arith, r.left_is, left.1);
            length_is = omega (arith, len_is, r.length_is, items_len-append w.item_len r.passed (x ∷ []));
            value_is = f ∙ (ap (λ v. value * base + v) e ∙ sym longer);
            fits = fit;
            gives = next.2;
          }
