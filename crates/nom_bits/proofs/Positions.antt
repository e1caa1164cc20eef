-- Positions among bits, and what follows them.
use Rattle.std.proofs.Common.{◌≡◌, ℕ, ◌+◌, ◌-◌, ◌*◌, ◌/◌, ◌%◌, ◌<◌, ◌≤◌, zero, suc, List, [], ◌∷◌, ◌++◌, length, take, append-nil, refl, sym, ◌∙◌, ap}
use Rattle.std.proofs.Common.{subst, arith, lit<, length-append}
use Rattle.std.proofs.lemmas.List.{take-append-drop}
use Rattle.std.proofs.Math.ListN.{drop_of_length-le}
use Rattle.std.proofs.Math.Nat.{mod-lt}
use Rattle.std.proofs.Math.Path.{fun_ext}
use Rattle.nom_internal.specs.Prelude.{Model, InputLaws, items_len, IsBoundary, IsSuffixOf, input_len, rest_rest, items_len-append, all_bits, AreBytes}
use Rattle.nom_internal.specs.Prelude.{past_bits, bits_model, bits_lawful}
use Rattle.nom_traits.specs.BitLists.{length-all_bits}
use Rattle.nom_traits.specs.BitPlaces.{passes_bits, past_all_bits}
use Rattle.nom_bits.specs.BitRests.{Skips, StandsAfter, SplitsAt, bits_ahead, bits_left, bits_place, skips_length}

-- items of no length are none
pub no_length : {A : Type 0} (item_len : A → ℕ) → ((a : A) → 0 < item_len a) → (xs : List A) → items_len item_len xs ≡ 0 → xs ≡ []
no_length item_len pos [] e = refl
no_length item_len pos (x ∷ xs) e = absurd (omega (arith, pos x, e))

no_items : {I : Type 0} (w : Model I ℕ) (j : I) (xs : List ℕ) → w.elements j ≡ xs → length (w.elements j) ≡ 0 → input_len w j ≡ 0
no_items w j [] e h = ap (λ ys. items_len w.item_len ys) e
no_items w j (x ∷ xs) e h = absurd (omega (arith, ap length e, h))

module _ {I : Type 0} (w : Model I ℕ) (l : InputLaws w) where
  -- bytes that are skipped, and then others
  skips_both : (x : I) (a : ℕ) (j : I) (b : ℕ) (k : I) → Skips w x a j → Skips w j b k → Skips w x (a + b) k
  skips_both x a j b k s t =
      let r = rest_rest w l x s.end j t.end k s.rest_is t.rest_is in
      let count : length r.front ≡ a + b =
      omega (arith, ap length r.whole, length-append r.front (w.elements k), skips_length w l x a j s, skips_length w l j b k t) in
      let place : IsBoundary w x (s.end + t.end) = record { front = r.front; rest = w.elements k; whole = r.whole; length_is = r.length_is } in
      record { end = s.end + t.end; counted = record { place = place; count_is = count }; rest_is = r }

  -- fewer bytes than are skipped
  pub too_few : (x : I) (o n : ℕ) → 0 < n → length (w.elements x) < (o + n) / 8 → length ((bits_model w).elements (x, o)) < n
  too_few x o n h k = omega (arith, bits_left w x o, h, k)

  -- bytes that are skipped, and no more, where bits of one more are wanted
  pub none_more : (x : I) (o n : ℕ) (j : I) → 0 < n → Skips w x ((o + n) / 8) j → 0 < (o + n) % 8 → input_len w j ≡ 0 →
      length ((bits_model w).elements (x, o)) < n
  none_more x o n j h s r e = omega (
    arith,
    bits_left w x o,
    skips_length w l x ((o + n) / 8) j s,
    ap length (no_length w.item_len l.positive (w.elements j) e),
    h,
    r,
  )

  -- a position, at its byte
  pub past_all : (x : I) (o n : ℕ) → 0 < n → length (w.elements x) < o / 8 → length ((bits_model w).elements (x, o)) < n
  past_all x o n h k = omega (arith, bits_left w x o, h, k)

  -- no bytes have no length
  none_long : (j : I) → length (w.elements j) ≡ 0 → input_len w j ≡ 0
  none_long j h = no_items w j (w.elements j) refl h

  enough_of : (x : I) (o n : ℕ) (j : I) (r m : ℕ) → (o + n) % 8 ≡ r → length (w.elements j) ≡ m →
      length (w.elements x) ≡ (o + n) / 8 + length (w.elements j) → (0 < (o + n) % 8 → input_len w j ≡ 0 → ⊥) → n ≤ length ((bits_model w).elements (x, o))
  enough_of x o n j zero m a b e f = omega (arith, a, e, bits_left w x o)
  enough_of x o n j (suc r) zero a b e f = absurd (f (omega (arith, a)) (none_long j b))
  enough_of x o n j (suc r) (suc m) a b e f = omega (arith, b, e, bits_left w x o)

  enough : (x : I) (o n : ℕ) (j : I) → length (w.elements x) ≡ (o + n) / 8 + length (w.elements j) → (0 < (o + n) % 8 → input_len w j ≡ 0 → ⊥) →
      n ≤ length ((bits_model w).elements (x, o))
  enough x o n j e f = enough_of x o n j ((o + n) % 8) (length (w.elements j)) refl refl e f

  module _ (values : (i : I) → w.IsKnown i → AreBytes (w.elements i)) where
    passed_within : (x : I) (o n : ℕ) (j : I) → w.IsKnown x → n ≤ length ((bits_model w).elements (x, o)) → Skips w x ((n + o) / 8) j →
        IsSuffixOf (bits_model w) (x, o) n (j, (n + o) % 8)
    passed_within x o n j h f s = passes_bits w l values x j o n s.end h (bits_place w (x, o) n f) s.counted s.rest_is

    -- bits that end at a byte's end, or in a byte that is there
    pub passed : (x : I) (o n : ℕ) (j : I) → w.IsKnown x → Skips w x ((o + n) / 8) j → (0 < (o + n) % 8 → input_len w j ≡ 0 → ⊥) →
        IsSuffixOf (bits_model w) (x, o) n (j, (o + n) % 8)
    passed x o n j h s f =
        let turned : n + o ≡ o + n = omega arith in
        let total = skips_length w l x ((o + n) / 8) j s in
        subst (λ m. IsSuffixOf (bits_model w) (x, o) n (j, m % 8)) turned
        (passed_within x o n j h (enough x o n j total f) (subst (λ m. Skips w x (m / 8) j) (sym turned) s))

    at_once : (i j : I × ℕ) → IsSuffixOf (bits_model w) i 0 j → (bits_model w).elements j ≡ (bits_model w).elements i
    at_once i j r = sym (r.whole ∙ ap (λ bs. bs ++ (bits_model w).elements j) (no_length (λ _. 1) (λ _. lit< tt) r.front r.length_is))

    pub at_byte : (x : I) (o : ℕ) (j : I) → w.IsKnown x → Skips w x (o / 8) j → IsSuffixOf (bits_model w) (x, o) 0 (j, o % 8)
    at_byte x o j h s =
        let none : 0 + o ≡ o = omega arith in
        subst (λ m. IsSuffixOf (bits_model w) (x, o) 0 (j, m % 8)) none (passed_within x o 0 j h (omega arith) (subst (λ m. Skips w x (m / 8) j) (sym none) s))

    -- the pair after a field that begins in its first byte, after the position that begins there
    stands_after : (x : I) (o n : ℕ) (j : I) (rest : I × ℕ) → 0 < n → Skips w x (o / 8) j → StandsAfter w (j, o % 8) n rest → StandsAfter w (x, o) n rest
    stands_after x o n j rest some s b = record {
      none = λ e. absurd (omega (arith, some, e));
      bytes = λ h. subst (λ m. Skips w x m rest.0) (omega arith) (skips_both x (o / 8) j ((o % 8 + n) / 8) rest.0 s (b.bytes h));
      bit = λ h. b.bit h ∙ omega arith;
    }

    -- a field after a position
    pub splits : (x : I) (o n : ℕ) (j : I) (rest : I × ℕ) → 0 < n → w.IsKnown x → Skips w x (o / 8) j → IsSuffixOf (bits_model w) (j, o % 8) n rest →
        StandsAfter w (j, o % 8) n rest → SplitsAt w (x, o) n (j, o % 8) rest
    splits x o n j rest some h s r b =
        let there = at_byte x o j h s in
        record {
          stands = stands_after x o n j rest some s b;
          bits_are = at_once (x, o) (j, o % 8) there;
          begins = λ some. mod-lt o {m = 8} (lit< tt);
          rest_is = subst (λ m. IsSuffixOf (bits_model w) (x, o) m rest) (omega arith)
              (rest_rest (bits_model w) (bits_lawful w) (x, o) 0 (j, o % 8) n rest there r);
        }

    -- fewer bits after a position
    pub few_after : (x : I) (o n : ℕ) (j : I) → w.IsKnown x → Skips w x (o / 8) j → length ((bits_model w).elements (j, o % 8)) < n →
        length ((bits_model w).elements (x, o)) < n
    few_after x o n j h s k = subst (λ bs. length bs < n) (at_once (x, o) (j, o % 8) (at_byte x o j h s)) k

    -- the next whole byte is there
    pub to_whole_byte : (x : I) (o : ℕ) (j : I) → w.IsKnown x → Skips w x (o / 8 + (o % 8 + 7) / 8) j →
        IsSuffixOf (bits_model w) (x, o) (bits_ahead w (x, o)) (j, 0)
    to_whole_byte x o j h s =
        let c = o / 8 + (o % 8 + 7) / 8 in
        let n = 8 * c - o in
        let total = skips_length w l x c j s in
        let left = bits_left w x o in
        let count : (n + o) / 8 ≡ c = omega arith in
        let none : (n + o) % 8 ≡ 0 = omega arith in
        let ahead : n ≡ bits_ahead w (x, o) = omega (arith, total, left) in
        let there = passed_within x o n j h (omega (arith, total, left)) (subst (λ m. Skips w x m j) (sym count) s) in
        subst (λ m. IsSuffixOf (bits_model w) (x, o) m (j, 0)) ahead (subst (λ m. IsSuffixOf (bits_model w) (x, o) n (j, m)) none there)

    -- and where it isn't, there are no bits
    pub to_end : (x : I) (o : ℕ) (j : I) → w.IsKnown x → length (w.elements x) < o / 8 + (o % 8 + 7) / 8 → IsSuffixOf w x (input_len w x) j →
        IsSuffixOf (bits_model w) (x, o) (bits_ahead w (x, o)) (j, 0)
    to_end x o j h few r =
        let xs = w.elements x in
        let past : length (all_bits xs) ≤ o = omega (arith, few, length-all_bits xs) in
        let none : (bits_model w).elements (x, o) ≡ [] = drop_of_length-le (all_bits xs) past in
        let spans : input_len w x ≡ items_len w.item_len r.front + items_len w.item_len (w.elements j) =
        ap (λ ys. items_len w.item_len ys) r.whole ∙ items_len-append w.item_len r.front (w.elements j) in
        let end : w.elements j ≡ [] = no_length w.item_len l.positive (w.elements j) (omega (arith, spans, r.length_is)) in
        let all : xs ≡ r.front = r.whole ∙ (ap (λ ys. r.front ++ ys) end ∙ append-nil r.front) in
        let taken : take o (all_bits xs) ≡ all_bits r.front = sym (append-nil (take o (all_bits xs))) ∙
        (ap (λ ys. take o (all_bits xs) ++ ys) (sym none) ∙ (take-append-drop o (all_bits xs) ∙ ap all_bits all)) in
        let here : IsSuffixOf (bits_model w) (x, o) 0 (j, 0) = record {
          known = r.known;
          front = [];
          whole = none ∙ sym (ap all_bits end);
          length_is = refl;
          mark_is = fun_ext (λ bs.
              ap (λ m. past_bits w m bs) r.mark_is
              ∙ sym (past_all_bits w l (w.mark x) r.front bs (subst AreBytes all (values x h)))
              ∙ ap (λ ys. past_bits w (w.mark x) (ys ++ bs)) (sym taken));
        } in
        subst (λ m. IsSuffixOf (bits_model w) (x, o) m (j, 0)) (omega (arith, ap length none)) here
