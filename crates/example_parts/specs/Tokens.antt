-- Inputs that hold a slice of tokens. Their model is the slice's, with a mark: how many tokens stood before.
use Rattle.std.specs.Prelude.{◌≡◌, ℕ, ◌+◌, ◌-◌, ◌^◌, min, ◌<◌, ◌≤◌, List, [], ◌∷◌, ◌++◌, length, take, drop, Option, Some, refl}
use Rattle.std.specs.Borrow.{Bor}
use Rattle.std.proofs.Common.{arith, lit<, sym, ◌∙◌, ap, subst, length-append}
use Rattle.std.proofs.Math.Seq.{take-append_seam, drop-append_seam}
use Rattle.std.proofs.lemmas.List.{length-take-le, take-append-drop}
use Rattle.nom_internal.specs.Prelude.{CompareResult, Model, AreValues, InputLaws, IsBoundary, IsPrefixOf, IsSuffixOf, IsSame, items_len-ones, IsCount, View}
use Rattle.nom_internal.specs.Prelude.{CompareLaws}
use Rattle.nom_traits.specs.declared.compare.CompareResult.TheVariants as Compared

-- a list of tokens against one token: the list begins with it; or is empty; or begins with another
abbrev pub Begins : {A : Type 0} → A → List A → CompareResult → Type 0
Begins {A} t xs Compared.Ok = (rest : List A) × (xs ≡ t ∷ rest)
Begins t xs Compared.Incomplete = xs ≡ []
Begins {A} t xs Compared.Error = (x : A) × (rest : List A) × (xs ≡ x ∷ rest) × (x ≡ t → ⊥)

-- that many tokens are missing
abbrev pub tokens_lacking : {A : Type 0} → ℕ → List A → Option ℕ
tokens_lacking count xs = Some (count - length xs)

-- each token is a value of its type
pub all_values : {A : Type 0} (xs : List A) → AreValues (λ _. Unit {0}) xs
all_values [] = tt
all_values (x ∷ xs) = (tt, all_values xs)

-- past some tokens; the count stays at the greatest `usize`
abbrev pub past : {A : Type 0} → ℕ → List A → ℕ
past m [] = m
past m (x ∷ xs) = past (min (m + 1) (2 ^ 64 - 1)) xs

past-append : {A : Type 0} (m : ℕ) (xs ys : List A) → past m (xs ++ ys) ≡ past (past m xs) ys
past-append m [] ys = refl
past-append m (x ∷ xs) ys = past-append (min (m + 1) (2 ^ 64 - 1)) xs ys

past-is : {A : Type 0} (m : ℕ) (xs : List A) → m < 2 ^ 64 → past m xs ≡ min (m + length xs) (2 ^ 64 - 1)
past-is m [] h = omega (arith, h)
past-is m (x ∷ xs) h =
    let low : min (m + 1) (2 ^ 64 - 1) < 2 ^ 64 = omega arith in
    past-is (min (m + 1) (2 ^ 64 - 1)) xs low ∙ omega (arith, h)

module _ {S A : Type 0} (tokens : S → Bor (List A)) (offset : S → ℕ) where
  -- each token is of length 1
  abbrev pub tokens_model : Model S A
  tokens_model = record {
    elements = λ x. (tokens x).now;
    item_len = λ _. 1;
    Mark = ℕ;
    mark = offset;
    mark_after = past;
    IsKnown = λ x. offset x < 2 ^ 64;
    IsMore = λ _. Unit {0};
  }

  abbrev pub tokens_view : View S
  tokens_view = record { Value = List A × ℕ; value = λ x. ((tokens x).now, offset x) }

  pub same_views : (x y : S) → IsSame tokens_model x y → tokens_view.value x ≡ tokens_view.value y
  same_views x y h =
      let pair : List A → ℕ → List A × ℕ = λ xs m. (xs, m) in
      ap (λ xs. pair xs (offset x)) h.elements_are ∙ ap (λ m. pair (tokens y).now m) h.mark_is

  pub told_by_views : (x y : S) → tokens_view.value x ≡ tokens_view.value y → IsSame tokens_model x y
  told_by_views x y e = record { elements_are = ap (λ p. p.0) e; mark_is = ap (λ p. p.1) e }

  pub tokens_lawful : InputLaws tokens_model
  tokens_lawful = record { positive = λ _. lit< tt; mark_none = λ _. refl; mark_more = past-append }

  front_length : (x : S) (n : ℕ) (p : IsBoundary tokens_model x n) → length p.front ≡ n
  front_length x n p = sym (items_len-ones p.front) ∙ p.length_is

  pub place_within : (x : S) (n : ℕ) → IsBoundary tokens_model x n → n ≤ length (tokens x).now
  place_within x n p = omega (arith, front_length x n p, ap length p.whole, length-append p.front p.rest)

  pub tokens_front : (x y : S) (n : ℕ) → IsBoundary tokens_model x n → offset x < 2 ^ 64 → (tokens y).now ≡ take n (tokens x).now → offset y ≡ offset x →
      IsPrefixOf tokens_model x n y
  tokens_front x y n p h e f =
      let taken : take n (tokens x).now ≡ p.front =
      ap (λ xs. take n xs) p.whole ∙ (ap (λ k. take k (p.front ++ p.rest)) (sym (front_length x n p)) ∙ take-append_seam p.front p.rest) in
      let same : p.front ≡ (tokens y).now = sym taken ∙ sym e in
      record {
        known = subst (λ m. m < 2 ^ 64) (sym f) h;
        rest = p.rest;
        whole = p.whole ∙ ap (λ xs. xs ++ p.rest) same;
        length_is = items_len-ones (tokens y).now ∙ (ap length (sym same) ∙ front_length x n p);
        mark_is = f;
      }

  pub tokens_rest : (x y : S) (n : ℕ) → IsBoundary tokens_model x n → offset x < 2 ^ 64 → (tokens y).now ≡ drop n (tokens x).now →
      offset y ≡ min (offset x + n) (2 ^ 64 - 1) → IsSuffixOf tokens_model x n y
  tokens_rest x y n p h e f =
      let dropped : drop n (tokens x).now ≡ p.rest =
      ap (λ xs. drop n xs) p.whole ∙ (ap (λ k. drop k (p.front ++ p.rest)) (sym (front_length x n p)) ∙ drop-append_seam p.front p.rest) in
      let same : p.rest ≡ (tokens y).now = sym dropped ∙ sym e in
      record {
        known = omega (arith, f);
        front = p.front;
        whole = p.whole ∙ ap (λ xs. p.front ++ xs) same;
        length_is = p.length_is;
        mark_is = f ∙ (ap (λ k. min (offset x + k) (2 ^ 64 - 1)) (sym (front_length x n p)) ∙ sym (past-is (offset x) p.front h));
      }

  pub tokens_count : (x : S) (count : ℕ) → count ≤ length (tokens x).now → IsCount tokens_model x count count
  tokens_count x count h = record {
    place = record {
      front = take count (tokens x).now;
      rest = drop count (tokens x).now;
      whole = sym (take-append-drop count (tokens x).now);
      length_is = items_len-ones (take count (tokens x).now) ∙ length-take-le count (tokens x).now h;
    };
    count_is = length-take-le count (tokens x).now h;
  }

one_result : {A : Type 0} (t : A) (xs : List A) (r s : CompareResult) → Begins t xs r → Begins t xs s → r ≡ s
one_result t xs Compared.Ok Compared.Ok h k = refl
one_result t xs Compared.Ok Compared.Incomplete h k = absurd (cc (h.1, k))
one_result t xs Compared.Ok Compared.Error h k = absurd (k.3 (cc (h.1, k.2)))
one_result t xs Compared.Incomplete Compared.Ok h k = absurd (cc (h, k.1))
one_result t xs Compared.Incomplete Compared.Incomplete h k = refl
one_result t xs Compared.Incomplete Compared.Error h k = absurd (cc (h, k.2))
one_result t xs Compared.Error Compared.Ok h k = absurd (h.3 (cc (h.2, k.1)))
one_result t xs Compared.Error Compared.Incomplete h k = absurd (cc (h.2, k))
one_result t xs Compared.Error Compared.Error h k = refl

module _ {S A : Type 0} (tokens : S → Bor (List A)) (offset : S → ℕ) where
  pub tokens_comparing : CompareLaws {I = S} {A = A} {T = A} (tokens_model tokens offset) (λ _. 1) Begins
  tokens_comparing = record {
    one = λ t x r s k h j. one_result t (tokens x).now r s h j;
    place = λ t x k h. record { front = t ∷ []; rest = h.0; whole = h.1; length_is = items_len-ones (t ∷ []) };
    shorter = λ t x k h. omega (arith, items_len-ones (tokens x).now, ap length h);
    ok_stays = λ t x y h k e r. (r.0 ++ e.more, e.whole ∙ ap (λ xs. xs ++ e.more) r.1);
    error_stays = λ t x y h k e r. (r.0, r.1 ++ e.more, e.whole ∙ ap (λ xs. xs ++ e.more) r.2, r.3);
  }
