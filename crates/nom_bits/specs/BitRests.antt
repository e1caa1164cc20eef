-- Rests of inputs of bits, and of the inputs of bytes under them.
use Rattle.std.specs.Prelude.{◌≡◌, ℕ, ◌+◌, ◌-◌, ◌*◌, ◌/◌, ◌%◌, ◌<◌, ◌≤◌, Bool, true, false, List, [], ◌∷◌, ◌++◌, length, refl, Option, Some, None}
use Rattle.std.proofs.Common.{zero, suc, arith, sym, ◌∙◌, ap, subst, lit<, drop, take, append-nil, append_assoc, length-append}
use Rattle.std.proofs.lemmas.Grind.{flat_map-append}
use Rattle.std.proofs.lemmas.List.{length-drop, length-take-le, take-append-drop}
use Rattle.nom_internal.specs.Prelude.{Model, items_len, IsBoundary, IsSuffixOf, Related, InputLaws, same_cut, items_len-ones, rest_related, IsCount}
use Rattle.nom_internal.specs.Prelude.{place_slice, place_first, first_related, same_count, same_length, byte_bits, all_bits, whole_bytes, AreBytes, past_bits}
use Rattle.nom_internal.specs.Prelude.{bits_model, bits_lawful}
use Rattle.nom_internal.specs.Prelude.{OfRest, ThenSideCondition, rest_rest, items_len-append}
use Rattle.nom_internal.specs.Results.ThenSideCondition.{Stopped, Both}
use Rattle.nom_traits.specs.BitLists.{length-all_bits, whole-all_bits, few_bits}
use Rattle.nom_traits.specs.BitPlaces.{passes_bits}

-- bits of bytes, and bytes of bits
pub all_bits-append : (xs ys : List ℕ) → all_bits (xs ++ ys) ≡ all_bits xs ++ all_bits ys
all_bits-append xs ys = flat_map-append byte_bits xs ys

pub no_bytes : whole_bytes [] ≡ []
no_bytes = (few_bits [] (lit< tt)).0

pub bytes_of_bits : (xs : List ℕ) → AreBytes xs → whole_bytes (all_bits xs) ≡ xs
bytes_of_bits xs h = ap whole_bytes (sym (append-nil (all_bits xs))) ∙ (whole-all_bits xs [] h ∙ (ap (λ ys. xs ++ ys) no_bytes ∙ append-nil xs))

pub same_bytes : (xs ys : List ℕ) → AreBytes xs → AreBytes ys → all_bits xs ≡ all_bits ys → xs ≡ ys
same_bytes xs ys h k e = sym (bytes_of_bits xs h) ∙ (ap whole_bytes e ∙ bytes_of_bits ys k)

pub bytes_after : (xs ys : List ℕ) → AreBytes (xs ++ ys) → AreBytes ys
bytes_after [] ys h = h
bytes_after (x ∷ xs) ys h = bytes_after xs ys h.1

pub bytes_before : (xs ys : List ℕ) → AreBytes (xs ++ ys) → AreBytes xs
bytes_before [] ys h = tt
bytes_before (x ∷ xs) ys h = (h.0, bytes_before xs ys h.1)

module _ {I : Type 0} (w : Model I ℕ) where
  -- j is x without its first bytes, as many as count
  pub record Skips (x : I) (count : ℕ) (j : I) : Type 0 where
    pub end : ℕ
    pub counted : IsCount w x count end
    pub rest_is : IsSuffixOf w x end j

  -- The pair after the next bits of i, as many as count: after none i itself, and else that many bytes on, at the bit that is
  -- next in its byte.
  pub record StandsAfter (i : I × ℕ) (count : ℕ) (rest : I × ℕ) : Type 0 where
    pub none : count ≡ 0 → rest ≡ i
    pub bytes : 0 < count → Skips i.0 ((i.1 + count) / 8) rest.0
    pub bit : 0 < count → rest.1 ≡ (i.1 + count) % 8

  -- The next bits of i, as many as count, are the first of start, which begins in its first byte if there are any; and rest
  -- follows them.
  pub record SplitsAt (i : I × ℕ) (count : ℕ) (start rest : I × ℕ) : Type 0 where
    pub bits_are : (bits_model w).elements start ≡ (bits_model w).elements i
    pub begins : 0 < count → start.1 < 8
    pub rest_is : IsSuffixOf (bits_model w) i count rest
    pub stands : StandsAfter i count rest

  pub bits_left : (x : I) (o : ℕ) → length ((bits_model w).elements (x, o)) ≡ 8 * length (w.elements x) - o
  bits_left x o = length-drop o (all_bits (w.elements x)) ∙ ap (λ n. n - o) (length-all_bits (w.elements x))

  -- that many bits are a front
  pub bits_place : (i : I × ℕ) (n : ℕ) → n ≤ length ((bits_model w).elements i) → IsBoundary (bits_model w) i n
  bits_place i n h =
      let bs = (bits_model w).elements i in
      record { front = take n bs; rest = drop n bs; whole = sym (take-append-drop n bs); length_is = items_len-ones (take n bs) ∙ length-take-le n bs h }

  -- the bits before the next whole byte: a list of bits ends with a byte
  abbrev pub bits_ahead : I × ℕ → ℕ
  bits_ahead i = length ((bits_model w).elements i) % 8

  -- what is left follows a front
  abbrev rest_place : (x : I) (n : ℕ) (j : I) → IsSuffixOf w x n j → IsBoundary w x n
  rest_place x n j p = record { front = p.front; rest = w.elements j; whole = p.whole; length_is = p.length_is }

  module _ (l : InputLaws w) where
    -- two counts of items of one length, on related inputs, are one
    pub same_counts : (longer : Bool) (x y : I) (c d n : ℕ) → Related w longer x y → IsCount w x c n → IsCount w y d n → c ≡ d
    same_counts longer x y c d n r p q =
        let first = first_related w longer x y n (place_slice w x n p.place) r (place_first w x n p.place) in
        let same = same_length w l y n n (place_slice w x n p.place) (place_slice w y n q.place) first (place_first w y n q.place) refl in
        sym p.count_is ∙ (ap (λ t. length t.items) same ∙ q.count_is)

    -- so many bytes, and then so many more
    pub skips_more : (x : I) (a : ℕ) (j : I) (b : ℕ) (k : I) → Skips x a j → Skips j b k → Skips x (a + b) k
    skips_more x a j b k p q =
        let first : IsCount w x (length p.rest_is.front) p.end = record { place = rest_place x p.end j p.rest_is; count_is = refl } in
        let next : IsCount w j (length q.rest_is.front) q.end = record { place = rest_place j q.end k q.rest_is; count_is = refl } in
        let m = same_counts false x x _ a p.end (record { elements_are = refl; mark_is = refl }) first p.counted in
        let n = same_counts false j j _ b q.end (record { elements_are = refl; mark_is = refl }) next q.counted in
        record {
          end = p.end + q.end;
          counted = record {
            place = record {
              front = p.rest_is.front ++ q.rest_is.front;
              rest = w.elements k;
              whole = p.rest_is.whole ∙ (ap (λ xs. p.rest_is.front ++ xs) q.rest_is.whole ∙ sym (append_assoc p.rest_is.front q.rest_is.front (w.elements k)));
              length_is = omega (arith, items_len-append w.item_len p.rest_is.front q.rest_is.front, p.rest_is.length_is, q.rest_is.length_is);
            };
            count_is = length-append p.rest_is.front q.rest_is.front ∙ (ap (λ c. c + length q.rest_is.front) m ∙ ap (λ c. a + c) n);
          };
          rest_is = rest_rest w l x p.end j q.end k p.rest_is q.rest_is;
        }

    stands_as : (i k : I × ℕ) (m n : ℕ) → m ≡ n → StandsAfter i m k → StandsAfter i n k
    stands_as i k m n e h = subst (λ c. StandsAfter i c k) e h

    -- so many bits, and then so many more
    pub stands_more : (i j k : I × ℕ) (m n : ℕ) → StandsAfter i m j → StandsAfter j n k → StandsAfter i (m + n) k
    stands_more i j k zero n p q = stands_as i k n (0 + n) (omega arith) (subst (λ x. StandsAfter x n k) (p.none refl) q)
    stands_more i j k (suc m) zero p q = stands_as i k (suc m) (suc m + 0) (omega arith) (rw (q.none refl) p)
    stands_more i j k (suc m) (suc n) p q =
        let some : 0 < suc m = omega arith in
        let more : 0 < suc n = omega arith in
        let bit : j.1 ≡ (i.1 + suc m) % 8 = p.bit some in
        let bytes : (i.1 + suc m) / 8 + (j.1 + suc n) / 8 ≡ (i.1 + (suc m + suc n)) / 8 = omega (arith, bit) in
        let last : (j.1 + suc n) % 8 ≡ (i.1 + (suc m + suc n)) % 8 = omega (arith, bit) in
        record {
          none = λ e. absurd (omega (arith, e));
          bytes = λ _. subst (λ c. Skips i.0 c k.0) bytes (skips_more i.0 _ j.0 _ k.0 (p.bytes some) (q.bytes more));
          bit = λ _. q.bit more ∙ last;
        }

    -- two parts that stand so many bits on, one after the other
    pub then_stands : (i : I × ℕ) (m n both : ℕ) (rest : Option (I × ℕ)) → m + n ≡ both →
        ThenSideCondition (OfRest (StandsAfter i m)) (λ j. OfRest (StandsAfter j n)) rest → OfRest (StandsAfter i both) rest
    then_stands i m n both None e h = tt
    then_stands i m n both (Some k) e (Stopped f s) = absurd (cc (s))
    then_stands i m n both (Some k) e (Both j f s) = stands_as i k (m + n) both e (stands_more i j k m n f s)

    -- and so are two lengths of one count
    pub same_lengths : (longer : Bool) (x y : I) (c m n : ℕ) → Related w longer x y → IsCount w x c m → IsCount w y c n → m ≡ n
    same_lengths longer x y c m n r p q =
        let first = first_related w longer x y m (place_slice w x m p.place) r (place_first w x m p.place) in
        (same_count w y m n (place_slice w x m p.place) (place_slice w y n q.place) first (place_first w y n q.place) (p.count_is ∙ sym q.count_is)).0

    -- how many bytes follow those that are skipped
    pub skips_length : (x : I) (count : ℕ) (j : I) → Skips x count j → length (w.elements x) ≡ count + length (w.elements j)
    skips_length x count j s =
        let cut = same_cut w.item_len l.positive s.rest_is.front (w.elements j) s.counted.place.front s.counted.place.rest
        (sym s.rest_is.whole ∙ s.counted.place.whole) (s.rest_is.length_is ∙ sym s.counted.place.length_is) in
        omega (arith, ap length s.rest_is.whole, length-append s.rest_is.front (w.elements j), ap length cut.0, s.counted.count_is)

    -- the mark of bits from the first on, with no bits after them
    pub start_mark : (j : I) → ((bits_model w).mark (j, 0) []).0 ≡ w.mark j
    start_mark j = ap (λ bs. w.mark_after (w.mark j) bs) no_bytes ∙ l.mark_none (w.mark j)

    -- bytes that are related, as bits
    pub as_bits : (longer : Bool) (x y : I) → AreBytes (w.elements y) → Related w longer x y → Related (bits_model w) longer (x, 0) (y, 0)
    as_bits true x y h e = record {
      more = all_bits e.more;
      added = record { bytes = e.more; more = e.added; are_bytes = bytes_after (w.elements x) e.more (subst AreBytes e.whole h); bits_are = refl };
      whole = ap all_bits e.whole ∙ all_bits-append (w.elements x) e.more;
      mark_is = ap (λ m bs. past_bits w m bs) e.mark_is;
    }
    as_bits false x y h r = record { elements_are = ap all_bits r.elements_are; mark_is = ap (λ m bs. past_bits w m bs) r.mark_is }

    -- bits that are related, as bytes
    pub as_bytes : (longer : Bool) (x y : I) → AreBytes (w.elements x) → AreBytes (w.elements y) → Related (bits_model w) longer (x, 0) (y, 0) →
        Related w longer x y
    as_bytes true x y h k e =
        let bytes = e.added.bytes in
        let bits : all_bits (w.elements y) ≡ all_bits (w.elements x) ++ all_bits bytes = e.whole ∙ ap (λ bs. all_bits (w.elements x) ++ bs) e.added.bits_are in
        record {
          more = bytes;
          added = e.added.more;
          whole = sym (bytes_of_bits (w.elements y) k) ∙
              (ap whole_bytes bits ∙ (whole-all_bits (w.elements x) (all_bits bytes) h ∙
              ap (λ bs. w.elements x ++ bs) (bytes_of_bits bytes e.added.are_bytes)));
          mark_is = sym (start_mark y) ∙ (ap (λ m. (m []).0) e.mark_is ∙ start_mark x);
        }
    as_bytes false x y h k r = record {
      elements_are = same_bytes (w.elements x) (w.elements y) h k r.elements_are;
      mark_is = sym (start_mark x) ∙ (ap (λ m. (m []).0) r.mark_is ∙ start_mark y);
    }

    -- related bits begin before one place of their bytes
    pub same_ahead : (longer : Bool) (x y : I × ℕ) → Related (bits_model w) longer x y → bits_ahead x ≡ bits_ahead y
    same_ahead true x y e = omega (
      arith,
      ap length e.whole,
      length-append ((bits_model w).elements x) e.more,
      ap length e.added.bits_are,
      length-all_bits e.added.bytes,
    )
    same_ahead false x y r = ap (λ bs. length bs % 8) r.elements_are

    module _ (values : (i : I) → w.IsKnown i → AreBytes (w.elements i)) where
      -- the inputs of bytes at which related bits reach the next whole byte are related
      pub ahead_related : (longer : Bool) (x y : I × ℕ) (j k : I) → Related (bits_model w) longer x y → IsSuffixOf (bits_model w) x (bits_ahead x) (j, 0) →
          IsSuffixOf (bits_model w) y (bits_ahead y) (k, 0) → Related w longer j k
      ahead_related longer x y j k r p q =
          let there : IsSuffixOf (bits_model w) y (bits_ahead x) (k, 0) = subst (λ n. IsSuffixOf (bits_model w) y n (k, 0)) (sym (same_ahead longer x y r)) q in
          as_bytes longer j k (values j p.known) (values k q.known)
          (rest_related (bits_model w) (bits_lawful w) longer x y (bits_ahead x) (j, 0) (k, 0) r p there)

      -- bytes that are passed, as bits
      pub bytes_passed : (x : I) (n : ℕ) (j : I) → w.IsKnown x → (r : IsSuffixOf w x n j) → IsSuffixOf (bits_model w) (x, 0) (8 * length r.front) (j, 0)
      bytes_passed x n j h r =
          let c = length r.front in
          let place : IsBoundary w x n = record { front = r.front; rest = w.elements j; whole = r.whole; length_is = r.length_is } in
          let whole : (8 * c + 0) / 8 ≡ c = omega arith in
          let none : (8 * c + 0) % 8 ≡ 0 = omega arith in
          let within : 8 * c ≤ length ((bits_model w).elements (x, 0)) = omega
          (arith, bits_left x 0, ap length r.whole, length-append r.front (w.elements j)) in
          let counted : IsCount w x ((8 * c + 0) / 8) n = record { place = place; count_is = sym whole } in
          subst (λ o. IsSuffixOf (bits_model w) (x, 0) (8 * c) (j, o)) none
          (passes_bits w l values x j 0 (8 * c) n h (bits_place (x, 0) (8 * c) within) counted r)

      -- bits that are passed to a whole byte, as bytes
      pub bits_passed : (x : I) (m : ℕ) (j : I) → w.IsKnown x → IsSuffixOf (bits_model w) (x, 0) m (j, 0) → (n : ℕ) × (c : ℕ) × IsCount w x c n ×
          IsSuffixOf w x n j × (m ≡ 8 * c)
      bits_passed x m j h r =
          let xs = w.elements x in
          let js = w.elements j in
          let c = length xs - length js in
          let total : 8 * length xs ≡ m + 8 * length js =
          omega (arith, length-all_bits xs, ap length r.whole, length-append r.front (all_bits js), items_len-ones r.front, r.length_is, length-all_bits js) in
          let eight : m ≡ 8 * c = omega (arith, total) in
          let within : c ≤ length xs = omega arith in
          let parts : all_bits xs ≡ all_bits (take c xs) ++ all_bits (drop c xs) =
          ap all_bits (sym (take-append-drop c xs)) ∙ all_bits-append (take c xs) (drop c xs) in
          let counted : length (take c xs) ≡ c = length-take-le c xs within in
          let cut = same_cut (λ _. 1) (λ _. omega arith) r.front (all_bits js) (all_bits (take c xs)) (all_bits (drop c xs)) (sym r.whole ∙ parts)
          (r.length_is ∙ (eight ∙ (omega (arith, length-all_bits (take c xs), counted, items_len-ones (all_bits (take c xs)))))) in
          let known : AreBytes (take c xs ++ drop c xs) = subst AreBytes (sym (take-append-drop c xs)) (values x h) in
          let rest : js ≡ drop c xs = same_bytes js (drop c xs) (values j r.known) (bytes_after (take c xs) (drop c xs) known) cut.1 in
          let whole : xs ≡ take c xs ++ js = sym (take-append-drop c xs) ∙ ap (λ ys. take c xs ++ ys) (sym rest) in
          let bytes : whole_bytes (r.front ++ []) ≡ take c xs =
          ap whole_bytes (append-nil r.front ∙ cut.0) ∙ bytes_of_bits (take c xs) (bytes_before (take c xs) (drop c xs) known) in
          let mark : w.mark j ≡ w.mark_after (w.mark x) (take c xs) =
          sym (start_mark j) ∙ (ap (λ m. (m []).0) r.mark_is ∙ ap (λ bs. w.mark_after (w.mark x) bs) bytes) in (
            items_len w.item_len (take c xs),
            c,
            record { place = record { front = take c xs; rest = js; whole = whole; length_is = refl }; count_is = counted },
            record { known = r.known; front = take c xs; whole = whole; length_is = refl; mark_is = mark },
            eight,
          )
