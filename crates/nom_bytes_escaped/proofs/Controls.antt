-- The first item of an input, and the rest after it.
use Rattle.std.proofs.Common.{◌≡◌, ℕ, ◌<◌, List, [], ◌∷◌, ◌++◌, length, Option, Some, None, refl, sym, ◌∙◌, ap, subst, arith}
use Rattle.std.specs.Iterator.{AlwaysYields}
use Rattle.nom_internal.specs.Prelude.{Model, InputLaws, IsSuffixOf, input_len, items_len, same_cut, IsCount}
use Rattle.nom_bytes_escaped.specs.NextPieces.{AfterControl, StandsLast}

module _ {A S : Type 0} (steps : S → Option A → S → Type 0) where
  -- the first item that is given is the first of the list
  pub first_given : (s t : S) (x : A) (xs : List A) → AlwaysYields steps (λ p. p) s xs → steps s (Some x) t → (ys : List A) × (xs ≡ x ∷ ys)
  first_given s t x [] g k = absurd (g x t k)
  first_given s t x (y ∷ ys) g k = (ys, ap (λ z. z ∷ ys) (sym (g.1 x t k).0))

  pub none_given : (s t : S) (xs : List A) → AlwaysYields steps (λ p. p) s xs → steps s None t → 0 < length xs → ⊥
  none_given s t [] g k h = omega (arith, h)
  none_given s t (y ∷ ys) g k h = g.0 t k

module _ {A : Type 0} (item_len : A → ℕ) (positive : (a : A) → 0 < item_len a) where
  pub no_items : (xs : List A) → items_len item_len xs ≡ 0 → xs ≡ []
  no_items [] e = refl
  no_items (x ∷ xs) e = absurd (omega (arith, positive x, e))

  pub some_items : (xs : List A) → (items_len item_len xs ≡ 0 → ⊥) → 0 < length xs
  some_items [] h = absurd (h refl)
  some_items (x ∷ xs) h = omega arith

module _ {I A : Type 0} (w : Model I A) (l : InputLaws w) where
  one_weight : (x : A) (xs front rest : List A) (n : ℕ) → x ∷ xs ≡ front ++ rest → length front ≡ 1 → items_len w.item_len front ≡ n → n ≡ w.item_len x
  one_weight x xs [] rest n e c h = absurd (omega (arith, c))
  one_weight x xs (a ∷ []) rest n e c h =
      let same : a ≡ x = cc (e) in
      omega (arith, h, ap w.item_len same)
  one_weight x xs (a ∷ b ∷ front) rest n e c h = absurd (omega (arith, c))

  -- the rest after the first item has all the others
  after_first : (i j : I) (x : A) (xs : List A) (n : ℕ) → w.elements i ≡ x ∷ xs → IsCount w i 1 n → IsSuffixOf w i n j → (n ≡ w.item_len x) ×
      (w.elements j ≡ xs)
  after_first i j x xs n e c r =
      let item_len = one_weight x xs c.place.front c.place.rest n (sym e ∙ c.place.whole) c.count_is c.place.length_is in
      let cut = same_cut w.item_len l.positive r.front (w.elements j) (x ∷ []) xs (sym r.whole ∙ e) (omega (arith, r.length_is, item_len)) in
      (item_len, cut.1)

  module _ (IsControl : A → Type 0) {i j : I} {x : A} {xs : List A} {n m : ℕ} (e : w.elements i ≡ x ∷ xs) (is : IsControl x) (c : IsCount w i 1 n)
      (r : IsSuffixOf w i n j) (h : m ≡ input_len w j) where
    pub stands_last : m ≡ 0 → StandsLast w IsControl i
    stands_last z =
        let none = no_items w.item_len l.positive (w.elements j) (sym h ∙ z) in
        record {
          item = x;
          elements_are = e ∙ ap (λ ys. x ∷ ys) (sym (after_first i j x xs n e c r).1 ∙ none);
          is_control = is;
        }

    pub stands_before : (m ≡ 0 → ⊥) → AfterControl w IsControl (λ y. y ≡ j) i
    stands_before z =
        let first = after_first i j x xs n e c r in
        record {
          item = x;
          items = xs;
          elements_are = e;
          is_control = is;
          some = subst (λ ys. 0 < length ys) first.1 (some_items w.item_len l.positive (w.elements j) (λ q. z (h ∙ q)));
          rest = j;
          rest_is = subst (λ k. IsSuffixOf w i k j) first.0 r;
          fact = refl;
        }
