-- The laws of decimal integers.
use Rattle.std.specs.Prelude.{◌≡◌, ℕ, ◌+◌, ◌*◌, ◌-◌, ◌<◌, ◌≤◌, Bool, true, false, cond, ◌⊎◌, List, [], ◌∷◌, ◌++◌, map, length, Some, ℤ, pos, ◌≤ℤ◌, refl}
use Rattle.std.proofs.Common.{arith, sym, ◌∙◌, ap, subst, append_assoc, length-append, inl, inr}
use Rattle.std.specs.Prelude.{FitsSigned}
use Rattle.std.specs.Int.{Width, FitsUnsignedBits}
use mir.Val.{hbits}
use Rattle.num_traits.specs.Ints.{unsigned-between, signed-between}
use Rattle.std.proofs.lemmas.Int.{ints}
use Rattle.std.proofs.lemmas.Nat.{pow_pos}
use Rattle.std.proofs.lemmas.List.{map-append}
use Rattle.nom_internal.specs.Prelude.{Errors, is_dec_digit_code, digits_after, Model, items_len, IsBoundary, Related, IsLawful, IsSteady, LeafLaws}
use Rattle.nom_internal.specs.Prelude.{leaf_lawful, leaf_steady}
use Rattle.nom_character_integer.specs.Integers.{digits_of, after_digits, decimal_number, with_sign, is_sign, sign_of, after_sign, is_negative, integer_digits}
use Rattle.nom_character_integer.specs.Integers.{after_integer, integer_of, IsRange, IsEnded, integers, integer_meaning, unsigned_meaning, signed_meaning}

-- what a type has of the integers
pub range_of : (fits : ℤ → Type 0) (exact : Type 0) → exact → ((n : ℕ) → n < 128 → fits (pos n)) →
    ((x y z : ℤ) → exact → fits x → fits z → x ≤ℤ y → y ≤ℤ z → fits y) → IsRange fits
range_of fits exact e small between = record { zero = small 0 (omega arith); between = λ x y z. between x y z e }

-- a number is no further from 0 than one of more digits
pub nearer : (fits : ℤ → Type 0) → IsRange fits → (negative : Bool) (m n : ℕ) → m ≤ n → fits (with_sign negative n) → fits (with_sign negative m)
nearer fits l true m n h f = l.between (with_sign true n) (with_sign true m) (pos 0) f l.zero (grind (arith, ints)) (grind (arith, ints))
nearer fits l false m n h f = l.between (pos 0) (pos m) (pos n) l.zero f (grind (arith, ints)) (grind (arith, ints))

digits_grow : (v : ℕ) (ds : List ℕ) → v ≤ digits_after 10 v ds
digits_grow v [] = omega arith
digits_grow v (d ∷ ds) = omega (arith, digits_grow (10 * v + d) ds)

digits_further : (v : ℕ) (ds es : List ℕ) → digits_after 10 v ds ≤ digits_after 10 v (ds ++ es)
digits_further v [] es = digits_grow v es
digits_further v (d ∷ ds) es = digits_further (10 * v + d) ds es

module _ {A : Type 0} (code : A → ℕ) where
  pub number_grows : (xs ys : List A) → decimal_number code xs ≤ decimal_number code (xs ++ ys)
  number_grows xs ys =
      let f : A → ℕ = λ x. code x - 48 in
      subst (λ ds. decimal_number code xs ≤ digits_after 10 0 ds) (sym (map-append f xs ys)) (digits_further 0 (map f xs) (map f ys))

  pub digits_whole : (xs : List A) → xs ≡ digits_of code xs ++ after_digits code xs
  digits_whole [] = refl
  digits_whole (x ∷ xs) = by (is_dec_digit_code (code x)) (digits_whole xs)
    where
      by : (b : Bool) → xs ≡ digits_of code xs ++ after_digits code xs → x ∷ xs ≡ cond b (x ∷ digits_of code xs) [] ++ cond b (after_digits code xs) (x ∷ xs)
      by true e = ap (λ ys. x ∷ ys) e
      by false e = refl

  -- digits that are followed stay, as a list grows
  record IsKept (xs more : List A) : Type 0 where
    digits_are : digits_of code (xs ++ more) ≡ digits_of code xs
    after_is : after_digits code (xs ++ more) ≡ after_digits code xs ++ more

  kept : (xs more : List A) → 0 < length (after_digits code xs) → IsKept xs more
  kept [] more h = absurd (omega (arith, h))
  kept (x ∷ xs) more h = record {
    digits_are = digits (is_dec_digit_code (code x)) h (λ k. kept xs more k);
    after_is =
        after (is_dec_digit_code (code x)) h (λ k. kept xs more k);
  }
    where
      digits : (b : Bool) → 0 < length (cond b (after_digits code xs) (x ∷ xs)) → (0 < length (after_digits code xs) → IsKept xs more) →
          cond b (x ∷ digits_of code (xs ++ more)) [] ≡ cond b (x ∷ digits_of code xs) []
      digits true h k = ap (λ ys. x ∷ ys) (k h).digits_are
      digits false h k = refl

      after : (b : Bool) → 0 < length (cond b (after_digits code xs) (x ∷ xs)) → (0 < length (after_digits code xs) → IsKept xs more) →
          cond b (after_digits code (xs ++ more)) (x ∷ (xs ++ more)) ≡ cond b (after_digits code xs) (x ∷ xs) ++ more
      after true h k = (k h).after_is
      after false h k = refl

  -- digits that nothing follows may grow
  grown : (xs more : List A) → length (after_digits code xs) ≡ 0 → digits_of code (xs ++ more) ≡ digits_of code xs ++ digits_of code more
  grown [] more h = refl
  grown (x ∷ xs) more h = by (is_dec_digit_code (code x)) h (λ k. grown xs more k)
    where
      by : (b : Bool) → length (cond b (after_digits code xs) (x ∷ xs)) ≡ 0 →
          (length (after_digits code xs) ≡ 0 → digits_of code (xs ++ more) ≡ digits_of code xs ++ digits_of code more) →
          cond b (x ∷ digits_of code (xs ++ more)) [] ≡ cond b (x ∷ digits_of code xs) [] ++ digits_of code more
      by true h k = ap (λ ys. x ∷ ys) (k h)
      by false h k = absurd (omega (arith, h))

module _ {A : Type 0} (code : A → ℕ) (signed : Bool) where
  pub sign_whole : (xs : List A) → xs ≡ sign_of code signed xs ++ after_sign code signed xs
  sign_whole [] = refl
  sign_whole (x ∷ xs) = by (is_sign code signed x)
    where
      by : (b : Bool) → x ∷ xs ≡ cond b (x ∷ []) [] ++ cond b xs (x ∷ xs)
      by true = refl
      by false = refl

  after_sign_more : (x : A) (xs more : List A) → after_sign code signed (x ∷ (xs ++ more)) ≡ after_sign code signed (x ∷ xs) ++ more
  after_sign_more x xs more = by (is_sign code signed x)
    where
      by : (b : Bool) → cond b (xs ++ more) (x ∷ (xs ++ more)) ≡ cond b xs (x ∷ xs) ++ more
      by true = refl
      by false = refl

  pub integer_whole : (xs : List A) → xs ≡ (sign_of code signed xs ++ integer_digits code signed xs) ++ after_integer code signed xs
  integer_whole xs =
      let ys = after_sign code signed xs in
      sign_whole xs ∙ (ap (λ zs. sign_of code signed xs ++ zs) (digits_whole code ys) ∙
      sym (append_assoc (sign_of code signed xs) (digits_of code ys) (after_digits code ys)))

  -- an integer that is followed stays, as a list grows
  record IsKeptInteger (xs more : List A) : Type 0 where
    sign_is : sign_of code signed (xs ++ more) ≡ sign_of code signed xs
    digits_are : integer_digits code signed (xs ++ more) ≡ integer_digits code signed xs
    integer_is : integer_of code signed (xs ++ more) ≡ integer_of code signed xs
    after_is : after_integer code signed (xs ++ more) ≡ after_integer code signed xs ++ more

  kept_integer : (xs more : List A) → 0 < length (after_integer code signed xs) → IsKeptInteger xs more
  kept_integer [] more h = absurd (omega (arith, h))
  kept_integer (x ∷ xs) more h =
      let k = kept code (after_sign code signed (x ∷ xs)) more h in
      let same = after_sign_more x xs more in
      let digits = ap (digits_of code) same ∙ k.digits_are in
      record {
        sign_is = refl;
        digits_are = digits;
        integer_is = ap (λ ds. with_sign (is_negative code signed (x ∷ xs)) (decimal_number code ds)) digits;
        after_is = ap (after_digits code) same ∙ k.after_is;
      }

  module _ (fits : ℤ → Type 0) (l : IsRange fits) where
    -- an integer of more digits fits only if that of fewer does
    grown_fits : (xs more : List A) → length (after_integer code signed xs) ≡ 0 → fits (integer_of code signed (xs ++ more)) → fits (integer_of code signed xs)
    grown_fits [] more h f = l.zero
    grown_fits (x ∷ xs) more h f =
        let ys = after_sign code signed (x ∷ xs) in
        let digits = ap (digits_of code) (after_sign_more x xs more) ∙ grown code ys more h in
        let negative = is_negative code signed (x ∷ xs) in
        nearer fits l negative (decimal_number code (digits_of code ys)) (decimal_number code (digits_of code ys ++ digits_of code more))
        (number_grows code (digits_of code ys) (digits_of code more)) (subst (λ ds. fits (with_sign negative (decimal_number code ds))) digits f)

    followed_or_not : (xs : List A) → (0 < length xs) ⊎ (length xs ≡ 0)
    followed_or_not [] = inr refl
    followed_or_not (x ∷ xs) = inl (omega arith)

    -- what fits not, doesn't as a list grows
    unfit_stays : (xs more : List A) → (¬ (fits (integer_of code signed xs))) → ¬ (fits (integer_of code signed (xs ++ more)))
    unfit_stays xs more h f = by (followed_or_not (after_integer code signed xs))
      where
        by : ((0 < length (after_integer code signed xs)) ⊎ (length (after_integer code signed xs) ≡ 0)) → ⊥
        by (inl g) = h (subst fits (kept_integer xs more g).integer_is f)
        by (inr g) = h (grown_fits xs more g f)

module _ {I A : Type 0} (w : Model I A) (code : A → ℕ) (signed : Bool) (fits : ℤ → Type 0) (l : IsRange fits) where
  abbrev Accepted : Bool → List A → ℕ → ℤ → Type 0
  Accepted s xs n z = (n ≡ items_len w.item_len (sign_of code signed xs ++ integer_digits code signed xs)) × (z ≡ integer_of code signed xs) × fits z ×
      (0 < length (integer_digits code signed xs)) × IsEnded w code signed fits s xs

  abbrev Refused : Bool → List A → Type 0
  Refused s xs = (¬ (fits (integer_of code signed xs))) ⊎ ((length (integer_digits code signed xs) ≡ 0) × IsEnded w code signed fits s xs)

  accepted_more : (xs more : List A) (n : ℕ) (z : ℤ) → Accepted true xs n z → Accepted true (xs ++ more) n z
  accepted_more xs more n z a =
      let k = kept_integer code signed xs more (a.4 refl) in
      let same = ap (λ zs. zs ++ integer_digits code signed (xs ++ more)) k.sign_is ∙ ap (λ zs. sign_of code signed xs ++ zs) k.digits_are in (
        a.0 ∙ sym (ap (items_len w.item_len) same),
        a.1 ∙ sym k.integer_is,
        a.2,
        subst (λ ds. 0 < length ds) (sym k.digits_are) a.3,
        λ _. omega (arith, a.4 refl, ap length k.after_is, length-append (after_integer code signed xs) more),
      )

  refused_more : (xs more : List A) → Refused true xs → Refused true (xs ++ more)
  refused_more xs more (inl h) = inl (unfit_stays code signed fits l xs more h)
  refused_more xs more (inr h) =
      let k = kept_integer code signed xs more (h.1 refl) in
      inr (ap length k.digits_are ∙ h.0, λ _. omega (arith, h.1 refl, ap length k.after_is, length-append (after_integer code signed xs) more))

  accepted_stays : (longer s : Bool) → (longer ≡ true → s ≡ true) → (x y : I) (n : ℕ) (z : ℤ) → Related w longer x y → Accepted s (w.elements x) n z →
      Accepted s (w.elements y) n z
  accepted_stays true s only x y n z r a =
      subst (λ b. Accepted b (w.elements y) n z) (sym (only refl))
      (subst (λ xs. Accepted true xs n z) (sym r.whole) (accepted_more (w.elements x) r.more n z (subst (λ b. Accepted b (w.elements x) n z) (only refl) a)))
  accepted_stays false s only x y n z r a = subst (λ xs. Accepted s xs n z) r.elements_are a

  refused_stays : (longer s : Bool) → (longer ≡ true → s ≡ true) → (x y : I) → Related w longer x y → Refused s (w.elements x) → Refused s (w.elements y)
  refused_stays true s only x y r a =
      subst (λ b. Refused b (w.elements y)) (sym (only refl))
      (subst (λ xs. Refused true xs) (sym r.whole) (refused_more (w.elements x) r.more (subst (λ b. Refused b (w.elements x)) (only refl) a)))
  refused_stays false s only x y r a = subst (λ xs. Refused s xs) r.elements_are a

  apart : (s : Bool) (xs : List A) (n : ℕ) (z : ℤ) → Accepted s xs n z → Refused s xs → ⊥
  apart s xs n z a (inl h) = h (subst fits a.1 a.2)
  apart s xs n z a (inr h) = omega (arith, a.3, h.0)

  settled : (xs : List A) → Refused true xs → Refused false xs
  settled xs (inl h) = inl h
  settled xs (inr h) = inr (h.0, λ e. absurd (cc (e)))

  never_open : (xs : List A) → fits (integer_of code signed xs) → length (after_integer code signed xs) ≡ 0 → Refused true xs → ⊥
  never_open xs f e (inl h) = h f
  never_open xs f e (inr h) = omega (arith, h.1 refl, e)

  integer_place : (i : I) (n : ℕ) → n ≡ items_len w.item_len (sign_of code signed (w.elements i) ++ integer_digits code signed (w.elements i)) →
      IsBoundary w i n
  integer_place i n e = record {
    front = sign_of code signed (w.elements i) ++ integer_digits code signed (w.elements i);
    rest =
        after_integer code signed (w.elements i);
    whole = integer_whole code signed (w.elements i);
    length_is = sym e;
  }

  pub integer_laws : LeafLaws w (integers w code signed fits)
  integer_laws = record {
    place = λ s i n z h a. integer_place i n a.0;
    one_accepted = λ s i n m u v h a b. (a.0 ∙ sym b.0, a.1 ∙ sym b.1);
    one_lack = λ i j k h a b. a.2 ∙ sym b.2;
    accepted_refused = λ s i n z h a b. apart s (w.elements i) n z a b;
    accepted_lacks = λ i n z k h a b. omega (arith, a.4 refl, b.1);
    refused_lacks = λ i k h a b. never_open (w.elements i) b.0 b.1 a;
    accepted_stays = λ longer s only x y n z kx ky r a. accepted_stays longer s only x y n z r a;
    refused_stays = λ longer s only x y kx ky r a. refused_stays longer s only x y r a;
    lack_consistent = λ x y k kx ky r a. subst (λ xs. fits (integer_of code signed xs) × (length (after_integer code signed xs) ≡ 0) × (k ≡ Some 1))
        r.elements_are a;
    accepted_settles = λ i n z h a. (a.0, a.1, a.2, a.3, λ e. absurd (cc (e)));
    refused_settles = λ i h a. settled (w.elements i) a;
  }

  module _ {E : Type 0} (errs : Errors I E) where
    pub integer_lawful : IsLawful w (integer_meaning w code signed fits errs)
    integer_lawful = leaf_lawful integer_laws

    -- a decided streaming answer stays on every longer input
    pub integer_steady : IsSteady w (integer_meaning w code signed fits errs)
    integer_steady = leaf_steady integer_laws

pub signed_range : (width : Width) → IsRange (λ z. FitsSigned width z)
signed_range width = record { zero = record { sfits = pow_pos (hbits width) }; between = signed-between width }

-- the laws of the types that there are
module _ {I A E : Type 0} (w : Model I A) (code : A → ℕ) (errs : Errors I E) where
  pub signed_lawful : (width : Width) → IsLawful w (signed_meaning w code width errs)
  signed_lawful width = integer_lawful w code true (λ z. FitsSigned width z) (signed_range width) errs

  pub signed_steady : (width : Width) → IsSteady w (signed_meaning w code width errs)
  signed_steady width = integer_steady w code true (λ z. FitsSigned width z) (signed_range width) errs
