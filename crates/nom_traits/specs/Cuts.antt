-- Rests by their lengths.
use Rattle.std.specs.Prelude.{◌≡◌, ℕ, ◌+◌}
use Rattle.std.proofs.Common.{arith, sym, ◌∙◌, ap}
use Rattle.nom_traits.specs.Input.{Model, InputLaws, IsBoundary, IsSuffixOf, IsSame, input_len, items_len}
use Rattle.nom_traits.specs.Rests.{items_len-append, same_cut}

module _ {I A : Type 0} (w : Model I A) where
  -- n is the length of the front before the rest of i that is as long as left
  pub record CutsAs (i : I) (n : ℕ) (left : I) : Type 0 where
    pub length_is : n + input_len w left ≡ input_len w i
    pub place : IsBoundary w i n

  -- no rest of i is as long as left
  pub record CutsNowhere (i left : I) : Type 0 where
    pub none : (n : ℕ) → CutsAs i n left → ⊥

  -- a rest is as long as itself
  pub suffix_cuts : (i : I) (n : ℕ) (j : I) → IsSuffixOf w i n j → CutsAs i n j
  suffix_cuts i n j p = record {
    length_is = omega (arith, ap (items_len w.item_len) p.whole, items_len-append w.item_len p.front (w.elements j), p.length_is);
    place = record { front = p.front; rest = w.elements j; whole = p.whole; length_is = p.length_is };
  }

  -- a cut has one length
  pub cuts_once : (i : I) (n m : ℕ) (left : I) → CutsAs i n left → CutsAs i m left → n ≡ m
  cuts_once i n m left p q = omega (arith, p.length_is, q.length_is)

  -- a rest is left at the place of its cut
  pub suffix_at : (i : I) (n m : ℕ) (j : I) → IsSuffixOf w i n j → CutsAs i m j → n ≡ m
  suffix_at i n m j p q = cuts_once i n m j (suffix_cuts i n j p) q

  -- where a rest is left, there is a cut
  pub suffix_somewhere : (i : I) (n : ℕ) (j : I) → IsSuffixOf w i n j → CutsNowhere i j → ⊥
  suffix_somewhere i n j p none = none.none n (suffix_cuts i n j p)

  -- what is cut in place of a rest is equal to it as models
  pub cut_same : InputLaws w → (i left j : I) (n m : ℕ) → IsSuffixOf w i n left → CutsAs i m left → IsSuffixOf w i m j → IsSame w j left
  cut_same l i left j n m p c q =
      let same : n ≡ m = suffix_at i n m left p c in
      let cut = same_cut w.item_len l.positive q.front (w.elements j) p.front (w.elements left) (sym q.whole ∙ p.whole)
      (q.length_is ∙ (sym same ∙ sym p.length_is)) in
      record { elements_are = cut.1; mark_is = q.mark_is ∙ (ap (w.mark_after (w.mark i)) cut.0 ∙ sym p.mark_is) }
