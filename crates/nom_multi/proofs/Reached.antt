-- Whether a length is a place, item by item.
use Rattle.std.proofs.Common.{◌≡◌, ℕ, ◌+◌, ◌<◌, List, [], ◌∷◌, ◌++◌, length, arith, sym, ◌∙◌, ap, subst}
use Rattle.nom_internal.specs.Prelude.{Model, InputLaws, items_len, IsBoundary, IsSuffixOf, place_more, IsCount}
use Rattle.nom_internal.specs.laws.CaseLaws.{no_place}

module _ {A : Type 0} (item_len : A → ℕ) (pos : (a : A) → 0 < item_len a) where
  -- what a longer front holds after a front
  front_after : (f r g h : List A) (m : ℕ) → f ++ r ≡ g ++ h → items_len item_len g ≡ items_len item_len f + m → (k : List A) × (r ≡ k ++ h) ×
      (items_len item_len k ≡ m)
  front_after [] r g h m e s = (g, e, omega (arith, s))
  front_after (x ∷ f) r [] h m e s = absurd (omega (arith, s, pos x))
  front_after (x ∷ f) r (y ∷ g) h m e s =
      let heads : x ≡ y = cc in
      let tails : f ++ r ≡ g ++ h = cc in
      front_after f r g h m tails (omega (arith, s, ap item_len heads))

  -- no front ends inside the first item
  none_inside : (f r g h : List A) → length f ≡ 1 → f ++ r ≡ g ++ h → 0 < items_len item_len g → items_len item_len g < items_len item_len f → ⊥
  none_inside [] r g h one e p q = absurd (omega (arith, one))
  none_inside (x ∷ (z ∷ f)) r g h one e p q = absurd (omega (arith, one))
  none_inside (x ∷ []) r [] h one e p q = absurd (omega (arith, p))
  none_inside (x ∷ []) r (y ∷ g) h one e p q =
      let heads : x ≡ y = cc in
      omega (arith, q, ap item_len heads)

  -- and none has a length, where there is no item
  none_of : (g h : List A) → length (g ++ h) < 1 → 0 < items_len item_len g → ⊥
  none_of [] h e p = omega (arith, p)
  none_of (x ∷ g) h e p = omega (arith, e)

-- an item has a length
one_positive : {A : Type 0} (item_len : A → ℕ) → ((a : A) → 0 < item_len a) → (xs : List A) → length xs ≡ 1 → 0 < items_len item_len xs
one_positive item_len pos [] e = absurd (omega (arith, e))
one_positive item_len pos (x ∷ xs) e = omega (arith, pos x)

pub first_positive : {I A : Type 0} {w : Model I A} → InputLaws w → {j : I} {k : ℕ} → IsCount w j 1 k → 0 < k
first_positive {w = w} l c = omega (arith, one_positive w.item_len l.positive c.place.front c.count_is, c.place.length_is)

module _ {I A : Type 0} (w : Model I A) where
  -- n is a place of i where m is one of j
  pub record IsReaching (i : I) (n : ℕ) (j : I) (m : ℕ) : Type 0 where
    pub back : IsBoundary w j m → IsBoundary w i n
    pub forth : IsBoundary w i n → IsBoundary w j m

module _ {I A : Type 0} {w : Model I A} where
  pub reached : {i j : I} {n m : ℕ} → IsReaching w i n j m → m ≡ 0 → IsBoundary w i n
  reached {j = j} h e = h.back (subst (λ z. IsBoundary w j z) (sym e) (no_place w j))

module _ {I A : Type 0} {w : Model I A} (l : InputLaws w) {i j : I} {n m : ℕ} (h : IsReaching w i n j m) where
  -- the first items are passed
  pub reaching_goes_on : (k d : ℕ) (x : I) → IsSuffixOf w j k x → m ≡ k + d → IsReaching w i n x d
  reaching_goes_on k d x r e = record {
    back = λ p. h.back (subst (λ z. IsBoundary w j z) (sym e) (place_more w j k x d r p));
    forth = λ p.
        let q = h.forth p in
        let c = front_after w.item_len l.positive r.front (w.elements x) q.front q.rest d (sym r.whole ∙ q.whole)
        (omega (arith, q.length_is, r.length_is, e)) in
        record { front = c.0; rest = q.rest; whole = c.1; length_is = c.2 };
  }

  pub inside_first : (k : ℕ) → IsCount w j 1 k → 0 < m → m < k → IsBoundary w i n → ⊥
  inside_first k c a b p =
      let q = h.forth p in
      let f = c.place in
      none_inside w.item_len l.positive f.front f.rest q.front q.rest c.count_is (sym f.whole ∙ q.whole) (omega (arith, q.length_is, a))
      (omega (arith, q.length_is, f.length_is, b))

  pub past_last : length (w.elements j) < 1 → 0 < m → IsBoundary w i n → ⊥
  past_last e a p =
      let q = h.forth p in
      none_of w.item_len l.positive q.front q.rest (omega (arith, e, ap length q.whole)) (omega (arith, q.length_is, a))
