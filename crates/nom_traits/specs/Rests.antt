-- Rests of inputs.
use Rattle.std.specs.Prelude.{◌≡◌, ℕ, ◌+◌, ◌<◌, Bool, true, false, List, [], ◌∷◌, ◌++◌, length, refl}
use Rattle.std.proofs.Common.{arith, sym, ◌∙◌, ap, append_assoc}
use Rattle.nom_traits.specs.Input.{Model, items_len, IsPrefixOf, IsSuffixOf, IsBoundary, IsSame, Related, InputLaws}

pub items_len-append : {A : Type 0} (item_len : A → ℕ) (xs ys : List A) → items_len item_len (xs ++ ys) ≡ items_len item_len xs + items_len item_len ys
items_len-append item_len [] ys = omega arith
items_len-append item_len (x ∷ xs) ys = omega (arith, items_len-append item_len xs ys)

pub items_len-ones : {A : Type 0} (xs : List A) → items_len (λ _. 1) xs ≡ length xs
items_len-ones [] = refl
items_len-ones (x ∷ xs) = omega (arith, items_len-ones xs)

-- two cuts of a list at one length are one
pub same_cut : {A : Type 0} (item_len : A → ℕ) → ((a : A) → 0 < item_len a) → (xs ys xs' ys' : List A) → xs ++ ys ≡ xs' ++ ys' →
    items_len item_len xs ≡ items_len item_len xs' → (xs ≡ xs') × (ys ≡ ys')
same_cut item_len pos [] ys [] ys' e h = (refl, e)
same_cut item_len pos [] ys (x ∷ xs') ys' e h = absurd (omega (arith, pos x))
same_cut item_len pos (x ∷ xs) ys [] ys' e h = absurd (omega (arith, pos x))
same_cut item_len pos (x ∷ xs) ys (y ∷ xs') ys' e h =
    let heads : x ≡ y = cc in
    let tails : xs ++ ys ≡ xs' ++ ys' = cc in
    let spans : items_len item_len xs ≡ items_len item_len xs' = omega (arith, ap item_len heads) in
    let r = same_cut item_len pos xs ys xs' ys' tails spans in
    (cc, r.1)

module _ {I A : Type 0} (w : Model I A) where
  pub same_self : (i : I) → IsSame w i i
  same_self i = record { elements_are = refl; mark_is = refl }

  pub same_sym : (x y : I) → IsSame w x y → IsSame w y x
  same_sym x y r = record { elements_are = sym r.elements_are; mark_is = sym r.mark_is }

  pub same_then : (x y z : I) → IsSame w x y → IsSame w y z → IsSame w x z
  same_then x y z r s = record { elements_are = r.elements_are ∙ s.elements_are; mark_is = r.mark_is ∙ s.mark_is }

  -- a rest of an input is a rest of one that is equal as models
  pub rest_consistent : (x y : I) (n : ℕ) (j : I) → IsSame w x y → IsSuffixOf w x n j → IsSuffixOf w y n j
  rest_consistent x y n j r p = record {
    known = p.known;
    front = p.front;
    whole = sym r.elements_are ∙ p.whole;
    length_is = p.length_is;
    mark_is = p.mark_is ∙ ap (λ m. w.mark_after m p.front) r.mark_is;
  }

  pub rest_place : (i : I) (n : ℕ) (j : I) → IsSuffixOf w i n j → IsBoundary w i n
  rest_place i n j p = record { front = p.front; rest = w.elements j; whole = p.whole; length_is = p.length_is }

  pub place_more : (i : I) (n : ℕ) (j : I) (m : ℕ) → IsSuffixOf w i n j → IsBoundary w j m → IsBoundary w i (n + m)
  place_more i n j m p q = record {
    front = p.front ++ q.front;
    rest = q.rest;
    whole = p.whole ∙ (ap (λ xs. p.front ++ xs) q.whole ∙ sym (append_assoc p.front q.front q.rest));
    length_is = omega (arith, items_len-append w.item_len p.front q.front, p.length_is, q.length_is);
  }

module _ {I A : Type 0} (w : Model I A) (l : InputLaws w) where
  pub rest_rest : (i : I) (n : ℕ) (j : I) (m : ℕ) (k : I) → IsSuffixOf w i n j → IsSuffixOf w j m k → IsSuffixOf w i (n + m) k
  rest_rest i n j m k p q = record {
    known = q.known;
    front = p.front ++ q.front;
    whole = p.whole ∙ (ap (λ xs. p.front ++ xs) q.whole ∙ sym (append_assoc p.front q.front (w.elements k)));
    length_is = omega (arith, items_len-append w.item_len p.front q.front, p.length_is, q.length_is);
    mark_is = q.mark_is ∙ (ap (λ s. w.mark_after s q.front) p.mark_is ∙ sym (l.mark_more (w.mark i) p.front q.front));
  }

  -- fronts of one length are equal as models
  pub same_front : (i : I) (n : ℕ) (x y : I) → IsPrefixOf w i n x → IsPrefixOf w i n y → IsSame w x y
  same_front i n x y p q =
      let c = same_cut w.item_len l.positive (w.elements x) p.rest (w.elements y) q.rest (sym p.whole ∙ q.whole) (p.length_is ∙ sym q.length_is) in
      record { elements_are = c.0; mark_is = p.mark_is ∙ sym q.mark_is }

  -- rests of related inputs at one place are related alike
  pub rest_related : (longer : Bool) (x y : I) (n : ℕ) (j k : I) → Related w longer x y → IsSuffixOf w x n j → IsSuffixOf w y n k → Related w longer j k
  rest_related true x y n j k e p q =
      let whole : q.front ++ w.elements k ≡ p.front ++ (w.elements j ++ e.more) =
      sym q.whole ∙ (e.whole ∙ (ap (λ xs. xs ++ e.more) p.whole ∙ append_assoc p.front (w.elements j) e.more)) in
      let u = same_cut w.item_len l.positive q.front (w.elements k) p.front (w.elements j ++ e.more) whole (q.length_is ∙ sym p.length_is) in
      record {
        more = e.more;
        added = e.added;
        whole = u.1;
        mark_is = q.mark_is ∙ (ap (λ xs. w.mark_after (w.mark y) xs) u.0 ∙ (ap (λ m. w.mark_after m p.front) e.mark_is ∙ sym p.mark_is));
      }
  rest_related false x y n j k s p q =
      let u = same_cut w.item_len l.positive p.front (w.elements j) q.front (w.elements k) (sym p.whole ∙ (s.elements_are ∙ q.whole))
      (p.length_is ∙ sym q.length_is) in
      record {
        elements_are = u.1;
        mark_is = p.mark_is ∙ (ap (λ m. w.mark_after m p.front) s.mark_is ∙ (ap (λ xs. w.mark_after (w.mark y) xs) u.0 ∙ sym q.mark_is));
      }
