-- The laws of numbers in a bounded count of digits.
use Rattle.std.specs.Prelude.{◌≡◌, ℕ, zero, suc, ◌+◌, ◌*◌, ◌-◌, ◌<◌, ◌≤◌, max, Bool, true, false, cond, ◌⊎◌, List, [], ◌∷◌, ◌++◌, map, length, Option}
use Rattle.std.specs.Prelude.{Some, refl}
use Rattle.std.proofs.Common.{arith, sym, ◌∙◌, ap, subst, length-append, inl, inr}
use Rattle.std.specs.Char.{digit_value}
use Rattle.std.specs.Str.Parse.{digits_value_after}
use Rattle.std.proofs.lemmas.Bool.Decides.{nat_tests}
use Rattle.nom_internal.specs.Prelude.{Errors, Model, items_len, IsBoundary, Related, IsLawful, IsSteady, LeafLaws, leaf_lawful, leaf_steady}
use Rattle.nom_character_integer.specs.CountedDigits.{is_digit_in, first_digits, number_of, AreEnded, counted_digits, digits_meaning}

-- a digit of a base appended to a number makes none that is less
digit_more : (base v c : ℕ) → is_digit_in base c ≡ true → v ≤ v * base + digit_value c
digit_more zero v c e = absurd (grind (arith, nat_tests, e))
digit_more (suc b) v c e = omega arith

module _ {A : Type 0} (code : A → ℕ) (base : ℕ) where
  pub digits_grow : (v n : ℕ) (xs : List A) → v ≤ digits_value_after base v (map code (first_digits code base n xs))
  digits_grow v zero xs = omega arith
  digits_grow v (suc n) [] = omega arith
  digits_grow v (suc n) (x ∷ xs) = by (is_digit_in base (code x)) refl (digits_grow (v * base + digit_value (code x)) n xs)
    where
      by : (b : Bool) → is_digit_in base (code x) ≡ b →
          v * base + digit_value (code x) ≤ digits_value_after base (v * base + digit_value (code x)) (map code (first_digits code base n xs)) →
          v ≤ digits_value_after base v (map code (cond b (x ∷ first_digits code base n xs) []))
      by true e k = omega (arith, digit_more base v (code x) e, k)
      by false e k = omega arith

  digits_further : (v n : ℕ) (xs more : List A) →
      digits_value_after base v (map code (first_digits code base n xs)) ≤ digits_value_after base v (map code (first_digits code base n (xs ++ more)))
  digits_further v zero xs more = omega arith
  digits_further v (suc n) [] more = digits_grow v (suc n) more
  digits_further v (suc n) (x ∷ xs) more = by (is_digit_in base (code x)) (digits_further (v * base + digit_value (code x)) n xs more)
    where
      by : (b : Bool) →
          digits_value_after base (v * base + digit_value (code x)) (map code (first_digits code base n xs)) ≤
          digits_value_after base (v * base + digit_value (code x)) (map code (first_digits code base n (xs ++ more))) → digits_value_after base v
          (map code (cond b (x ∷ first_digits code base n xs) [])) ≤
          digits_value_after base v (map code (cond b (x ∷ first_digits code base n (xs ++ more)) []))
      by true k = k
      by false k = omega arith

  pub first_whole : (n : ℕ) (xs : List A) → (rest : List A) × (xs ≡ first_digits code base n xs ++ rest)
  first_whole zero xs = (xs, refl)
  first_whole (suc n) [] = ([], refl)
  first_whole (suc n) (x ∷ xs) = by (is_digit_in base (code x)) (first_whole n xs)
    where
      by : (b : Bool) → (rest : List A) × (xs ≡ first_digits code base n xs ++ rest) →
          (rest : List A) × (x ∷ xs ≡ cond b (x ∷ first_digits code base n xs) [] ++ rest)
      by true r = (r.0, ap (λ ys. x ∷ ys) r.1)
      by false r = (x ∷ xs, refl)

  -- n digits, or fewer that are followed, stay as a list grows
  full_stays : (n : ℕ) (xs more : List A) → length (first_digits code base n xs) ≡ n → first_digits code base n (xs ++ more) ≡ first_digits code base n xs
  full_stays zero xs more h = refl
  full_stays (suc n) [] more h = absurd (omega (arith, h))
  full_stays (suc n) (x ∷ xs) more h = by (is_digit_in base (code x)) h (λ k. full_stays n xs more k)
    where
      by : (b : Bool) → length (cond b (x ∷ first_digits code base n xs) []) ≡ suc n →
          (length (first_digits code base n xs) ≡ n → first_digits code base n (xs ++ more) ≡ first_digits code base n xs) →
          cond b (x ∷ first_digits code base n (xs ++ more)) [] ≡ cond b (x ∷ first_digits code base n xs) []
      by true k stays = ap (λ ys. x ∷ ys) (stays (omega (arith, k)))
      by false k stays = refl

  followed_stays : (n : ℕ) (xs more : List A) → length (first_digits code base n xs) < length xs →
      first_digits code base n (xs ++ more) ≡ first_digits code base n xs
  followed_stays zero xs more h = refl
  followed_stays (suc n) [] more h = absurd (omega (arith, h))
  followed_stays (suc n) (x ∷ xs) more h = by (is_digit_in base (code x)) h (λ k. followed_stays n xs more k)
    where
      by : (b : Bool) → length (cond b (x ∷ first_digits code base n xs) []) < length (x ∷ xs) →
          (length (first_digits code base n xs) < length xs → first_digits code base n (xs ++ more) ≡ first_digits code base n xs) →
          cond b (x ∷ first_digits code base n (xs ++ more)) [] ≡ cond b (x ∷ first_digits code base n xs) []
      by true k stays = ap (λ ys. x ∷ ys) (stays (omega (arith, k)))
      by false k stays = refl

  ended_stays : (n : ℕ) (xs more : List A) → AreEnded code base n xs → first_digits code base n (xs ++ more) ≡ first_digits code base n xs
  ended_stays n xs more (inl h) = full_stays n xs more h
  ended_stays n xs more (inr h) = followed_stays n xs more h

  ended_more : (n : ℕ) (xs more : List A) → AreEnded code base n xs → AreEnded code base n (xs ++ more)
  ended_more n xs more (inl h) = inl (ap length (full_stays n xs more h) ∙ h)
  ended_more n xs more (inr h) = inr (omega (arith, h, ap length (followed_stays n xs more h), length-append xs more))

module _ {I A : Type 0} (w : Model I A) (code : A → ℕ) (base m n greatest : ℕ) where
  abbrev Accepted : Bool → List A → ℕ → ℕ → Type 0
  Accepted s xs k v = let ds = first_digits code base n xs in
      (m ≤ length ds) × (s ≡ true → AreEnded code base n xs) × (k ≡ items_len w.item_len ds) × (v ≡ number_of code base ds) × (v ≤ greatest)

  abbrev Refused : Bool → List A → Type 0
  Refused s xs = let ds = first_digits code base n xs in
      (greatest < number_of code base ds) ⊎ ((length ds < m) × (s ≡ true → AreEnded code base n xs))

  abbrev Lacking : List A → Option ℕ → Type 0
  Lacking xs k = let ds = first_digits code base n xs in
      (number_of code base ds ≤ greatest) × (length ds < n) × (length ds ≡ length xs) × (k ≡ Some (max 1 (m - length ds)))

  accepted_more : (xs more : List A) (k v : ℕ) → Accepted true xs k v → Accepted true (xs ++ more) k v
  accepted_more xs more k v a =
      let same = sym (ended_stays code base n xs more (a.1 refl)) in (
        subst (λ ds. m ≤ length ds) same a.0,
        λ _. ended_more code base n xs more (a.1 refl),
        subst (λ ds. k ≡ items_len w.item_len ds) same a.2,
        subst (λ ds. v ≡ number_of code base ds) same a.3,
        a.4,
      )

  refused_more : (xs more : List A) → Refused true xs → Refused true (xs ++ more)
  refused_more xs more (inl h) = inl (omega (arith, h, digits_further code base 0 n xs more))
  refused_more xs more (inr h) =
      inr (subst (λ ds. length ds < m) (sym (ended_stays code base n xs more (h.1 refl))) h.0, λ _. ended_more code base n xs more (h.1 refl))

  accepted_stays : (longer s : Bool) → (longer ≡ true → s ≡ true) → (x y : I) (k v : ℕ) → Related w longer x y → Accepted s (w.elements x) k v →
      Accepted s (w.elements y) k v
  accepted_stays true s only x y k v r a =
      subst (λ b. Accepted b (w.elements y) k v) (sym (only refl))
      (subst (λ xs. Accepted true xs k v) (sym r.whole) (accepted_more (w.elements x) r.more k v (subst (λ b. Accepted b (w.elements x) k v) (only refl) a)))
  accepted_stays false s only x y k v r a = subst (λ xs. Accepted s xs k v) r.elements_are a

  refused_stays : (longer s : Bool) → (longer ≡ true → s ≡ true) → (x y : I) → Related w longer x y → Refused s (w.elements x) → Refused s (w.elements y)
  refused_stays true s only x y r a =
      subst (λ b. Refused b (w.elements y)) (sym (only refl))
      (subst (λ xs. Refused true xs) (sym r.whole) (refused_more (w.elements x) r.more (subst (λ b. Refused b (w.elements x)) (only refl) a)))
  refused_stays false s only x y r a = subst (λ xs. Refused s xs) r.elements_are a

  apart : (s : Bool) (xs : List A) (k v : ℕ) → Accepted s xs k v → Refused s xs → ⊥
  apart s xs k v a (inl h) = omega (arith, a.3, a.4, h)
  apart s xs k v a (inr h) = omega (arith, a.0, h.0)

  settled : (xs : List A) → Refused true xs → Refused false xs
  settled xs (inl h) = inl h
  settled xs (inr h) = inr (h.0, λ e. absurd (cc (e)))

  never_ended : (xs : List A) (k : Option ℕ) → Lacking xs k → AreEnded code base n xs → ⊥
  never_ended xs k b (inl h) = omega (arith, b.1, h)
  never_ended xs k b (inr h) = omega (arith, b.2, h)

  never_open : (xs : List A) (k : Option ℕ) → Lacking xs k → Refused true xs → ⊥
  never_open xs k b (inl h) = omega (arith, b.0, h)
  never_open xs k b (inr h) = never_ended xs k b (h.1 refl)

  pub digits_place : (i : I) (k : ℕ) → k ≡ items_len w.item_len (first_digits code base n (w.elements i)) → IsBoundary w i k
  digits_place i k e =
      let whole = first_whole code base n (w.elements i) in
      record { front = first_digits code base n (w.elements i); rest = whole.0; whole = whole.1; length_is = sym e }

  digits_laws : LeafLaws w (counted_digits w code base m n greatest)
  unfolding counted_digits
  digits_laws = record {
    place = λ s i k v h a. digits_place i k a.2;
    one_accepted = λ s i j k u v h a b. (a.2 ∙ sym b.2, a.3 ∙ sym b.3);
    one_lack = λ i j k h a b. a.3 ∙ sym b.3;
    accepted_refused = λ s i k v h a b. apart s (w.elements i) k v a b;
    accepted_lacks = λ i j v k h a b. never_ended (w.elements i) k b (a.1 refl);
    refused_lacks = λ i k h a b. never_open (w.elements i) k b a;
    accepted_stays = λ longer s only x y k v kx ky r a. accepted_stays longer s only x y k v r a;
    refused_stays = λ longer s only x y kx ky r a. refused_stays longer s only x y r a;
    lack_consistent = λ x y k kx ky r a. subst (λ xs. Lacking xs k) r.elements_are a;
    accepted_settles = λ i k v h a. (a.0, λ e. absurd (cc (e)), a.2, a.3, a.4);
    refused_settles = λ i h a. settled (w.elements i) a;
  }

  module _ {E : Type 0} (errs : Errors I E) where
    pub digits_lawful : IsLawful w (digits_meaning w code base m n greatest errs)
    digits_lawful = leaf_lawful digits_laws

    -- a decided streaming answer stays on every longer input
    pub digits_steady : IsSteady w (digits_meaning w code base m n greatest errs)
    digits_steady = leaf_steady digits_laws
