-- Signs, and digits one by one.
use Rattle.std.proofs.Common.{◌≡◌, ℕ, ◌+◌, ◌-◌, ◌*◌, ◌==◌, ◌||◌, ◌&&◌, Bool, true, false, cond, Option, Some, None, List, [], ◌∷◌, ◌++◌, map}
use Rattle.std.proofs.Common.{length, refl, sym, ◌∙◌, ap, subst, arith, append_assoc, append-nil}
use Rattle.std.specs.Prelude.{ℤ, pos}
use Rattle.std.specs.Iterator.{AlwaysYields}
use Rattle.std.proofs.lemmas.List.{map-append}
use Rattle.nom_internal.specs.Prelude.{is_dec_digit_code, value_of, value_more, Model, items_len, placed, input_len, IsBoundary, IsSuffixOf, InputLaws}
use Rattle.nom_internal.specs.Prelude.{items_len-append, same_cut}
use Rattle.nom_character_integer.specs.Integers.{digits_of, after_digits, decimal_number, with_sign, sign_of, after_sign, is_negative, IsRange}
use Rattle.nom_character_integer.specs.laws.IntegerLaws.{number_grows, nearer, sign_whole}
use Rattle.nom_character_integer.specs.Read.{AfterSign, IsRead, IsUnfit}

module _ {A : Type 0} (code : A → ℕ) (signed : Bool) where
  -- where no sign stands, there is no minus
  no_minus : (xs : List A) → sign_of code signed xs ≡ [] → is_negative code signed xs ≡ false
  no_minus [] e = refl
  no_minus (x ∷ xs) e = by signed (code x == 43) (code x == 45) e
    where
      by : (a b c : Bool) → cond (a && (b || c)) (x ∷ []) [] ≡ [] → (a && c) ≡ false
      by true true c e = cc (e)
      by true false true e = cc (e)
      by true false false e = refl
      by false b c e = refl

  -- a sign is the first item, and a minus by its code point
  a_sign : (x : A) (xs : List A) → sign_of code signed xs ≡ x ∷ [] → is_negative code signed xs ≡ (code x == 45)
  a_sign x [] e = cc (e)
  a_sign x (y ∷ xs) e = by signed (code y == 43 || code y == 45) e
    where
      by : (a b : Bool) → cond (a && b) (y ∷ []) [] ≡ x ∷ [] → (a && code y == 45) ≡ (code x == 45)
      by true true e = let same : y ≡ x = cc (e) in ap (λ z. code z == 45) same
      by true false e = cc (e)
      by false b e = cc (e)

module _ {I A : Type 0} (w : Model I A) (code : A → ℕ) (signed : Bool) (i : I) where
  module _ (x : A) (e : sign_of code signed (w.elements i) ≡ x ∷ []) where
    whole : w.elements i ≡ (x ∷ []) ++ after_sign code signed (w.elements i)
    whole = sign_whole code signed (w.elements i) ∙ ap (λ ys. ys ++ after_sign code signed (w.elements i)) e

    one : items_len w.item_len (x ∷ []) ≡ w.item_len x
    one = omega arith

    pub sign_place : (n : ℕ) → n ≡ w.item_len x → IsBoundary w i n
    sign_place n h = record { front = x ∷ []; rest = after_sign code signed (w.elements i); whole = whole; length_is = one ∙ sym h }

    pub after_a_sign : (n : ℕ) (j : I) → n ≡ w.item_len x → (r : IsSuffixOf w i n j) → InputLaws w →
        AfterSign w code signed i (record { negative = code x == 45; digits = j })
    after_a_sign n j h r l =
        let cut = same_cut w.item_len l.positive r.front (w.elements j) (x ∷ []) (after_sign code signed (w.elements i)) (sym r.whole ∙ whole)
        (r.length_is ∙ (h ∙ sym one)) in
        record {
          rest_is = subst (λ m. IsSuffixOf w i m j) (h ∙ (sym one ∙ sym (ap (items_len w.item_len) e))) r;
          elements_are = cut.1;
          negative_is = sym (a_sign code signed x (w.elements i) e);
        }

-- Items that are given with their places.
module _ {A S : Type 0} (item_len : A → ℕ) (steps : S → Option (ℕ × A) → S → Type 0) (s t : S) where
  placed_given : (p n : ℕ) (x : A) (xs : List A) → AlwaysYields steps (λ q. q) s (placed item_len p xs) → steps s (Some (n, x)) t →
      (ys : List A) × (xs ≡ x ∷ ys) × (n ≡ p) × AlwaysYields steps (λ q. q) t (placed item_len (p + item_len x) ys)
  placed_given p n x [] g k = absurd (g (n, x) t k)
  placed_given p n x (y ∷ ys) g k =
      let r = g.1 (n, x) t k in
      let same : y ≡ x = sym (ap (λ q. q.1) r.0) in
      (ys, ap (λ z. z ∷ ys) same, ap (λ q. q.0) r.0, subst (λ z. AlwaysYields steps (λ q. q) t (placed item_len (p + item_len z) ys)) same r.1)

  placed_ended : (p : ℕ) (xs : List A) → AlwaysYields steps (λ q. q) s (placed item_len p xs) → steps s None t → xs ≡ []
  placed_ended p [] g k = refl
  placed_ended p (y ∷ ys) g k = absurd (g.0 t k)

-- Digits that are read one by one.
module _ {I A S T : Type 0} (w : Model I A) (code : A → ℕ) (value : T → ℤ) (fits : ℤ → Type 0) (negative : Bool) (steps : S → Option (ℕ × A) → S → Type 0) where
  -- the digits that were passed, with their number; s gives the other items, each with its place
  pub record IsReading (i : I) (number : T) (s : S) : Type 0 where
    pub passed : List A
    pub rest : List A
    pub whole : w.elements i ≡ passed ++ rest
    pub digits_are : digits_of code (w.elements i) ≡ passed ++ digits_of code rest
    pub after_is : after_digits code (w.elements i) ≡ after_digits code rest
    pub value_is : value number ≡ with_sign negative (decimal_number code passed)
    pub fitting : fits (value number)
    pub gives : AlwaysYields steps (λ x. x) s (placed w.item_len (items_len w.item_len passed) rest)

  pub reading_begins : (i : I) (number : T) (s : S) → value number ≡ pos 0 → fits (pos 0) → AlwaysYields steps (λ x. x) s (placed w.item_len 0 (w.elements i)) →
      IsReading i number s
  reading_begins i number s e f h = record {
    passed = [];
    rest = w.elements i;
    whole = refl;
    digits_are = refl;
    after_is = refl;
    value_is = e ∙ zero negative;
    fitting = subst fits (sym e) f;
    gives = h;
  }
    where
      zero : (b : Bool) → pos 0 ≡ with_sign b 0
      zero true = refl
      zero false = refl

  module _ (i : I) (number : T) (s t : S) (r : IsReading i number s) where
    -- nothing is left
    pub reading_ends : (n : ℕ) → n ≡ input_len w i → steps s None t →
        IsRead w code value fits negative i (record { value = number; length = n; followed = false })
    reading_ends n e k =
        let none = placed_ended w.item_len steps s t (items_len w.item_len r.passed) r.rest r.gives k in
        let digits : digits_of code (w.elements i) ≡ r.passed = r.digits_are ∙ (ap (λ xs. r.passed ++ digits_of code xs) none ∙ append-nil r.passed) in
        let all : w.elements i ≡ r.passed = r.whole ∙ (ap (λ xs. r.passed ++ xs) none ∙ append-nil r.passed) in
        record {
          value_is = r.value_is ∙ ap (λ xs. with_sign negative (decimal_number code xs)) (sym digits);
          fitting = r.fitting;
          length_is = e ∙ ap (items_len w.item_len) (all ∙ sym digits);
          followed_is = (λ e. absurd (cc (e)), λ h. absurd (omega (arith, h, ap length (r.after_is ∙ ap (after_digits code) none))));
        }

    module _ (n : ℕ) (x : A) (k : steps s (Some (n, x)) t) where
      next : (xs : List A) × (r.rest ≡ x ∷ xs) × (n ≡ items_len w.item_len r.passed) ×
          AlwaysYields steps (λ q. q) t (placed w.item_len (items_len w.item_len r.passed + w.item_len x) xs)
      next = placed_given w.item_len steps s t (items_len w.item_len r.passed) n x r.rest r.gives k

      -- the next item is no digit
      pub reading_stops : is_dec_digit_code (code x) ≡ false → IsRead w code value fits negative i (record { value = number; length = n; followed = true })
      reading_stops h =
          let none : digits_of code (x ∷ next.0) ≡ [] = ap (λ b. cond b (x ∷ digits_of code next.0) []) h in
          let left : after_digits code (x ∷ next.0) ≡ x ∷ next.0 = ap (λ b. cond b (after_digits code next.0) (x ∷ next.0)) h in
          let digits : digits_of code (w.elements i) ≡ r.passed =
          r.digits_are ∙ (ap (λ xs. r.passed ++ digits_of code xs) next.1 ∙ (ap (λ xs. r.passed ++ xs) none ∙ append-nil r.passed)) in
          record {
            value_is = r.value_is ∙ ap (λ xs. with_sign negative (decimal_number code xs)) (sym digits);
            fitting = r.fitting;
            length_is = next.2 ∙ ap (items_len w.item_len) (sym digits);
            followed_is = (λ e. omega (arith, ap length (r.after_is ∙ (ap (after_digits code) next.1 ∙ left))), λ e. refl);
          }

      module _ (h : is_dec_digit_code (code x) ≡ true) where
        passes : digits_of code (w.elements i) ≡ (r.passed ++ (x ∷ [])) ++ digits_of code next.0
        passes =
            r.digits_are ∙ (
            ap (λ xs. r.passed ++ digits_of code xs) next.1 ∙ (
            ap (λ b. r.passed ++ cond b (x ∷ digits_of code next.0) []) h ∙ sym (append_assoc r.passed (x ∷ []) (digits_of code next.0))
            )
            )

        more : decimal_number code (r.passed ++ (x ∷ [])) ≡ 10 * decimal_number code r.passed + (code x - 48)
        more = ap (value_of 10) (map-append (λ y. code y - 48) r.passed (x ∷ [])) ∙ value_more 10 0 (code x - 48) (map (λ y. code y - 48) r.passed)

        -- the number with the next digit fits not, so that of all digits doesn't
        pub reading_unfit : IsRange fits → (d : ℕ) → d ≡ code x - 48 → ¬ (fits (with_sign negative (10 * decimal_number code r.passed + d))) →
            IsUnfit w code fits negative i
        reading_unfit l d e u f =
            let grows = number_grows code (r.passed ++ (x ∷ [])) (digits_of code next.0) in
            let all : fits (with_sign negative (decimal_number code ((r.passed ++ (x ∷ [])) ++ digits_of code next.0))) =
            subst (λ xs. fits (with_sign negative (decimal_number code xs))) passes f in
            u (subst (λ m. fits (with_sign negative m)) (more ∙ ap (λ m. 10 * decimal_number code r.passed + m) (sym e)) (nearer fits l negative _ _ grows all))

        pub reading_goes_on : (d : ℕ) (longer : T) → d ≡ code x - 48 → value longer ≡ with_sign negative (10 * decimal_number code r.passed + d) →
            fits (with_sign negative (10 * decimal_number code r.passed + d)) → IsReading i longer t
        reading_goes_on d longer f is fit =
            let place : items_len w.item_len r.passed + w.item_len x ≡ items_len w.item_len (r.passed ++ (x ∷ [])) = omega
            (arith, items_len-append w.item_len r.passed (x ∷ [])) in
            record {
              passed = r.passed ++ (x ∷ []);
              rest = next.0;
              whole = r.whole ∙ (ap (λ xs. r.passed ++ xs) next.1 ∙ sym (append_assoc r.passed (x ∷ []) next.0));
              digits_are = passes;
              after_is = r.after_is ∙ (ap (after_digits code) next.1 ∙ ap (λ b. cond b (after_digits code next.0) (x ∷ next.0)) h);
              value_is = is ∙ ap (with_sign negative) (ap (λ k. 10 * decimal_number code r.passed + k) f ∙ sym more);
              fitting = subst fits (sym is) fit;
              gives = subst (λ m. AlwaysYields steps (λ q. q) t (placed w.item_len m next.0)) place next.3;
            }
