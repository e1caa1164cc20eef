-- Slices of an input, as models.
use Rattle.std.specs.Prelude.{◌≡◌, ℕ, ◌<◌, Bool, true, false, List, [], ◌++◌, length, refl}
use Rattle.std.proofs.Common.{arith, sym, ◌∙◌, ap, append_assoc, append-nil, length-append}
use Rattle.nom_traits.specs.Input.{Model, items_len, IsBoundary, IsPrefixOf, Related, InputLaws}
use Rattle.nom_traits.specs.Rests.{same_cut, items_len-ones}

-- a list of items with its mark: the parse tree of a slice
pub record Slice {I A : Type 0} (w : Model I A) : Type 0 where
  pub items : List A
  pub mark : w.Mark

module _ {I A : Type 0} (w : Model I A) where
  -- the value is an input of that model
  pub record IsModelledBy (t : Slice w) (v : I) : Type 0 where
    pub known : w.IsKnown v
    pub elements_are : w.elements v ≡ t.items
    pub mark_is : w.mark v ≡ t.mark

  -- the slice is the first items of i, of length n
  pub record IsFirst (i : I) (n : ℕ) (t : Slice w) : Type 0 where
    pub rest : List A
    pub whole : w.elements i ≡ t.items ++ rest
    pub length_is : items_len w.item_len t.items ≡ n
    pub mark_is : t.mark ≡ w.mark i

  -- n is the length of the first items, as many as count
  pub record IsCount (i : I) (count n : ℕ) : Type 0 where
    pub place : IsBoundary w i n
    pub count_is : length place.front ≡ count

  pub first_place : (i : I) (n : ℕ) (t : Slice w) → IsFirst i n t → IsBoundary w i n
  first_place i n t p = record { front = t.items; rest = p.rest; whole = p.whole; length_is = p.length_is }

  abbrev pub place_slice : (i : I) (n : ℕ) → IsBoundary w i n → Slice w
  place_slice i n p = record { items = p.front; mark = w.mark i }

  pub place_first : (i : I) (n : ℕ) (p : IsBoundary w i n) → IsFirst i n (place_slice i n p)
  place_first i n p = record { rest = p.rest; whole = p.whole; length_is = p.length_is; mark_is = refl }

  pub front_seen : InputLaws w → (i : I) (n : ℕ) (v : I) (t : Slice w) → IsPrefixOf w i n v → IsFirst i n t → IsModelledBy t v
  front_seen l i n v t p q =
      let c = same_cut w.item_len l.positive (w.elements v) p.rest t.items q.rest (sym p.whole ∙ q.whole) (p.length_is ∙ sym q.length_is) in
      record { known = p.known; elements_are = c.0; mark_is = p.mark_is ∙ sym q.mark_is }

  slice_equal : (t u : Slice w) → t.items ≡ u.items → t.mark ≡ u.mark → t ≡ u
  slice_equal t u e f =
      let slice : List A → w.Mark → Slice w = λ xs m. record { items = xs; mark = m } in
      ap (λ xs. slice xs t.mark) e ∙ ap (λ m. slice u.items m) f

  -- the second of related inputs is the first and more
  related_more : (longer : Bool) (x y : I) → Related w longer x y → (more : List A) × (w.elements y ≡ w.elements x ++ more) × (w.mark y ≡ w.mark x)
  related_more true x y r = (r.more, r.whole, r.mark_is)
  related_more false x y r = ([], sym r.elements_are ∙ sym (append-nil (w.elements x)), sym r.mark_is)

  pub first_related : (longer : Bool) (x y : I) (n : ℕ) (t : Slice w) → Related w longer x y → IsFirst x n t → IsFirst y n t
  first_related longer x y n t r p =
      let k = related_more longer x y r in
      record {
        rest = p.rest ++ k.0;
        whole = k.1 ∙ (ap (λ xs. xs ++ k.0) p.whole ∙ append_assoc t.items p.rest k.0);
        length_is = p.length_is;
        mark_is = p.mark_is ∙ sym k.2;
      }

  -- first items of one measure are one slice
  same_measure : (measure : A → ℕ) → ((a : A) → 0 < measure a) → (i : I) (n m : ℕ) (t u : Slice w) → IsFirst i n t → IsFirst i m u →
      items_len measure t.items ≡ items_len measure u.items → t ≡ u
  same_measure measure positive i n m t u p q e =
      let c = same_cut measure positive t.items p.rest u.items q.rest (sym p.whole ∙ q.whole) e in
      slice_equal t u c.0 (p.mark_is ∙ sym q.mark_is)

  pub same_length : InputLaws w → (i : I) (n m : ℕ) (t u : Slice w) → IsFirst i n t → IsFirst i m u → n ≡ m → t ≡ u
  same_length l i n m t u p q e = same_measure w.item_len l.positive i n m t u p q (p.length_is ∙ (e ∙ sym q.length_is))

  pub same_count : (i : I) (n m : ℕ) (t u : Slice w) → IsFirst i n t → IsFirst i m u → length t.items ≡ length u.items → (n ≡ m) × (t ≡ u)
  same_count i n m t u p q e =
      let same = same_measure (λ _. 1) (λ _. omega arith) i n m t u p q (items_len-ones t.items ∙ (e ∙ sym (items_len-ones u.items))) in
      (sym p.length_is ∙ (ap (λ z. items_len w.item_len z.items) same ∙ q.length_is), same)

  pub first_fewer : (i : I) (n : ℕ) (t : Slice w) (count : ℕ) → IsFirst i n t → length t.items ≡ count → length (w.elements i) < count → ⊥
  first_fewer i n t count p e h = omega (arith, ap length p.whole, length-append t.items p.rest)
