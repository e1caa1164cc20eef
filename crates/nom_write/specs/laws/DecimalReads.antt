-- Laws of reading back decimal digits.
use Rattle.std.specs.Prelude.{◌≡◌, ℕ, ◌-◌, ◌<◌, ◌==◌, ◌&&◌, ◌||◌, ◌⊎◌, Bool, true, false, cond, List, [], ◌∷◌, ◌++◌, length, map, ℤ, refl}
use Rattle.std.specs.List.{All}
use Rattle.std.proofs.Common.{arith, sym, ◌∙◌, ap, subst, inl, inr}
use Rattle.std.proofs.lemmas.List.{length-map}
use Rattle.std.proofs.lemmas.List.Elements.{All-cons, All-head, All-nil, All-tail}
use Rattle.nom_internal.specs.Prelude.{Accept, Errors, Grammar, IsLawful, Model, is_dec_digit_code, items_len, same_self, value_of}
use Rattle.nom_character_integer.specs.Integers.{after_digits, after_integer, after_sign, decimal_number, digits_of, integer_digits, integer_meaning}
use Rattle.nom_character_integer.specs.Integers.{integer_of, is_negative, is_sign, sign_of, with_sign}
use Rattle.nom_sink.specs.Numerals.{AreDigitsOf, IsSigned, digit_code}
use Rattle.nom_write.specs.Decimals.{IsDecimal, IsDigit}
use Rattle.nom_write.specs.Reads.{IsEnd, Reads, ReadsAtEnd, ReadsBefore}
use Rattle.nom_write.specs.Runs.{BeginsOther}

digit : (d : ℕ) → d < 10 → is_dec_digit_code (digit_code d) ≡ true
digit d h = grind (arith, h)

digit_value : (d : ℕ) → d < 10 → digit_code d - 48 ≡ d
digit_value d h = grind (arith, h)

-- what begins with no digit, or is nothing
abbrev EndsDigits : {A : Type 0} → (A → ℕ) → List A → Type 0
EndsDigits code rest = BeginsOther (IsDigit code) rest ⊎ (rest ≡ [])

module _ {A : Type 0} (code : A → ℕ) where
  -- digits before what begins with none are the first digits
  run_of : (xs rest : List A) → All (λ x. IsDigit code x true) xs → EndsDigits code rest → (digits_of code (xs ++ rest) ≡ xs) ×
      (after_digits code (xs ++ rest) ≡ rest)
  run_of [] rest h (inr e) = subst (λ z. (digits_of code z ≡ []) × (after_digits code z ≡ z)) {x = []} {y = rest} (sym e) (refl, refl)
  run_of [] rest h (inl b) = subst (λ z. (digits_of code z ≡ []) × (after_digits code z ≡ z)) {x = b.item ∷ b.more} {y = rest} (sym b.whole)
      (ends (is_dec_digit_code (code b.item)) b.fails)
    where
      ends : (d : Bool) → d ≡ false → (cond d (b.item ∷ digits_of code b.more) [] ≡ []) ×
          (cond d (after_digits code b.more) (b.item ∷ b.more) ≡ b.item ∷ b.more)
      ends true e = absurd (cc (e))
      ends false e = (refl, refl)
  run_of (x ∷ xs) rest h b = goes (is_dec_digit_code (code x)) (All-head (λ z. IsDigit code z true) x xs h)
      (run_of xs rest (All-tail (λ z. IsDigit code z true) x xs h) b)
    where
      goes : (d : Bool) → d ≡ true → (digits_of code (xs ++ rest) ≡ xs) × (after_digits code (xs ++ rest) ≡ rest) →
          (cond d (x ∷ digits_of code (xs ++ rest)) [] ≡ x ∷ xs) × (cond d (after_digits code (xs ++ rest)) (x ∷ (xs ++ rest)) ≡ rest)
      goes true e k = (ap (λ z. x ∷ z) k.0, k.1)
      goes false e k = absurd (cc (e))

  -- a sign, digits, and what follows them
  record Parts (signed negative : Bool) (ys xs ds rest : List A) : Type 0 where
    front : sign_of code signed ys ++ integer_digits code signed ys ≡ xs
    digits : integer_digits code signed ys ≡ ds
    after : after_integer code signed ys ≡ rest
    negative_is : is_negative code signed ys ≡ negative

  digits_alone : (signed : Bool) (ds rest : List A) → 0 < length ds → All (λ x. IsDigit code x true) ds → EndsDigits code rest →
      Parts signed false (ds ++ rest) ds ds rest
  digits_alone signed [] rest some h b = absurd (omega (arith, some))
  digits_alone signed (x ∷ xs) rest some h b =
      let head = All-head (λ z. IsDigit code z true) x xs h in
      let none : is_sign code signed x ≡ false = no_sign signed (code x) head in
      let run = run_of (x ∷ xs) rest h b in
      let same : after_sign code signed (x ∷ (xs ++ rest)) ≡ x ∷ (xs ++ rest) = ap (λ c. cond c (xs ++ rest) (x ∷ (xs ++ rest))) none in
      let digits : integer_digits code signed (x ∷ (xs ++ rest)) ≡ x ∷ xs = ap (λ z. digits_of code z) same ∙ run.0 in
      record {
        front = ap (λ c. cond c (x ∷ []) [] ++ integer_digits code signed (x ∷ (xs ++ rest))) none ∙ digits;
        digits = digits;
        after = ap (λ z. after_digits code z) same ∙ run.1;
        negative_is = not_minus signed (code x) head;
      }
    where
      -- a digit is no sign
      no_sign : (signed : Bool) (c : ℕ) → is_dec_digit_code c ≡ true → (signed && (c == 43 || c == 45)) ≡ false
      no_sign false c h = refl
      no_sign true c h = grind (arith, h)

      not_minus : (signed : Bool) (c : ℕ) → is_dec_digit_code c ≡ true → (signed && c == 45) ≡ false
      not_minus false c h = refl
      not_minus true c h = grind (arith, h)

  after_minus : (signed : Bool) (m : A) (ds rest : List A) → code m ≡ 45 → signed ≡ true → All (λ x. IsDigit code x true) ds → EndsDigits code rest →
      Parts signed true (m ∷ (ds ++ rest)) (m ∷ ds) ds rest
  after_minus false m ds rest c e h b = absurd (cc (e))
  after_minus true m ds rest c e h b =
      let run = run_of ds rest h b in
      let sign : is_sign code true m ≡ true = subst (λ n. (n == 43 || n == 45) ≡ true) (sym c) refl in
      let same : after_sign code true (m ∷ (ds ++ rest)) ≡ ds ++ rest = ap (λ c. cond c (ds ++ rest) (m ∷ (ds ++ rest))) sign in
      let digits : integer_digits code true (m ∷ (ds ++ rest)) ≡ ds = ap (λ z. digits_of code z) same ∙ run.0 in
      record {
        front = ap (λ c. cond c (m ∷ []) [] ++ integer_digits code true (m ∷ (ds ++ rest))) sign ∙ ap (λ z. m ∷ z) digits;
        digits = digits;
        after = ap (λ z. after_digits code z) same ∙ run.1;
        negative_is = subst (λ n. (n == 45) ≡ true) (sym c) refl;
      }

  -- what is read of a form before what begins with no digit
  record IsReadAs (signed negative : Bool) (n : ℕ) (ys xs rest : List A) : Type 0 where
    front : sign_of code signed ys ++ integer_digits code signed ys ≡ xs
    some : 0 < length (integer_digits code signed ys)
    number : integer_of code signed ys ≡ with_sign negative n
    after : after_integer code signed ys ≡ rest

  -- Items of codes.
  module _ (item_of : ℕ → A) (coded : (n : ℕ) → code (item_of n) ≡ n) where
    abbrev items : List ℕ → List A
    items ds = map (λ d. item_of (digit_code d)) ds

    all_digits : (ds : List ℕ) → All (λ d. d < 10) ds → All (λ x. IsDigit code x true) (items ds)
    all_digits [] h = All-nil (λ x. IsDigit code x true)
    all_digits (d ∷ ds) h = All-cons (λ x. IsDigit code x true) (item_of (digit_code d)) (items ds)
        (ap is_dec_digit_code (coded (digit_code d)) ∙ digit d (All-head (λ d. d < 10) d ds h)) (all_digits ds (All-tail (λ d. d < 10) d ds h))

    values : (ds : List ℕ) → All (λ d. d < 10) ds → map (λ x. code x - 48) (items ds) ≡ ds
    values [] h = refl
    values (d ∷ ds) h = ap (λ z. z ∷ map (λ x. code x - 48) (items ds))
        (ap (λ n. n - 48) (coded (digit_code d)) ∙ digit_value d (All-head (λ d. d < 10) d ds h)) ∙
        ap (λ zs. d ∷ zs) (values ds (All-tail (λ d. d < 10) d ds h))

    some_items : (n : ℕ) (xs : List A) → AreDigitsOf item_of 10 n xs → 0 < length xs
    some_items n xs a = subst (λ z. 0 < length z) (sym a.items) (omega (arith, a.some, length-map a.digits (λ d. item_of (digit_code d))))

    are_digits : (n : ℕ) (xs : List A) → AreDigitsOf item_of 10 n xs → All (λ x. IsDigit code x true) xs
    are_digits n xs a = subst (λ z. All (λ x. IsDigit code x true) z) (sym a.items) (all_digits a.digits a.below)

    read_as : (signed negative : Bool) (n : ℕ) (ys xs ds rest : List A) → AreDigitsOf item_of 10 n ds → Parts signed negative ys xs ds rest →
        IsReadAs signed negative n ys xs rest
    read_as signed negative n ys xs ds rest a p =
        let number : decimal_number code ds ≡ n =
        ap (λ z. decimal_number code z) a.items ∙ (ap (value_of 10) (values a.digits a.below) ∙ a.number) in
        record {
          front = p.front;
          some = subst (λ z. 0 < length z) (sym p.digits) (some_items n ds a);
          number = ap (λ b. with_sign b (decimal_number code (integer_digits code signed ys))) p.negative_is ∙
              ap (λ m. with_sign negative m) (ap (λ z. decimal_number code z) p.digits ∙ number);
          after = p.after;
        }

    reads_as : (signed negative : Bool) (n : ℕ) (xs rest : List A) → (negative ≡ true → signed ≡ true) → IsSigned item_of negative n xs →
        EndsDigits code rest → IsReadAs signed negative n (xs ++ rest) xs rest
    reads_as signed false n xs rest allowed a b =
        read_as signed false n (xs ++ rest) xs xs rest a (digits_alone signed xs rest (some_items n xs a) (are_digits n xs a) b)
    reads_as signed true n xs rest allowed f b =
        let whole : xs ≡ item_of 45 ∷ f.back = f.whole ∙ ap (λ z. z ++ f.back) f.first in
        subst (λ z. IsReadAs signed true n (z ++ rest) z rest) (sym whole)
        (read_as signed true n (item_of 45 ∷ (f.back ++ rest)) (item_of 45 ∷ f.back) f.back rest f.second
        (after_minus signed (item_of 45) f.back rest (coded 45) (allowed refl) (are_digits n f.back f.second) b))

    module _ {I T E : Type 0} (w : Model I A) (signed : Bool) (value : T → ℤ) (fits : ℤ → Type 0) (errs : Errors I E)
        (l : IsLawful w (integer_meaning w code signed fits errs)) where
      abbrev integers : Grammar I ℤ T E
      integers = record { meaning = integer_meaning w code signed fits errs; IsOutput = λ z x. value x ≡ z }

      -- before what ends digits
      decimal_before : (s : Bool) (Next : List A → Type 0) → ((rest : List A) → Next rest → EndsDigits code rest × (s ≡ true → 0 < length rest)) →
          (v : T) (xs : List A) → IsDecimal item_of signed value fits v xs → ReadsBefore w (integers.meaning.answers s) (λ z. value v ≡ z) Next xs
      decimal_before s Next ends v xs f = record {
        read = λ i rest o known e next a.
            let n = items_len w.item_len xs in
            let z : ℤ = with_sign f.negative f.whole in
            let end = ends rest next in
            let r : IsReadAs signed f.negative f.whole (w.elements i) xs rest = subst (λ y. IsReadAs signed f.negative f.whole y xs rest) (sym e)
            (reads_as signed f.negative f.whole xs rest (λ h. (f.minus h).0) f.written end.0) in (
              z,
              l.one_outcome s i i o (Accept n z) known known (same_self w i) a tt (
                ap (λ y. items_len w.item_len y) (sym r.front),
                sym r.number,
                f.fitting,
                r.some,
                λ h. subst (λ y. 0 < length y) (sym r.after) (end.1 h),
              ),
              f.value_is,
            );
      }

      pub decimal_reads : Reads w integers (IsDecimal item_of signed value fits) (BeginsOther (IsDigit code))
      decimal_reads = record {
        reads = λ v xs f s. decimal_before s (BeginsOther (IsDigit code)) (λ rest next. (
          inl next,
          λ _. subst (λ y. 0 < length y) {x = next.item ∷ next.more} (sym next.whole) (omega arith),
        )) v xs f;
      }

      -- and at the end of a complete input
      pub decimal_ends : ReadsAtEnd w integers (IsDecimal item_of signed value fits)
      decimal_ends = record { reads = λ v xs f. decimal_before false IsEnd (λ rest next. (inr next, λ h. absurd (cc (h)))) v xs f }
