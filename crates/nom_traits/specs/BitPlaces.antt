-- Places among bits.
use Rattle.std.specs.Prelude.{◌≡◌, ℕ, ◌+◌, ◌-◌, ◌*◌, ◌/◌, ◌%◌, ◌<◌, ◌≤◌, Bool, List, [], ◌++◌, length}
use Rattle.std.proofs.Common.{arith, sym, ◌∙◌, ap, subst, lit<, drop, take, append_assoc, length-append, length-take}
use Rattle.std.proofs.Math.Nat.{mod-lt}
use Rattle.std.proofs.Math.Path.{fun_ext}
use Rattle.std.proofs.Math.Seq.{take-add, take-append_seam}
use Rattle.std.proofs.lemmas.List.{append-nil, drop-drop, drop_at, length-take-le, take-append-drop}
use Rattle.nom_traits.specs.Input.{Model, IsBoundary, IsSuffixOf, IsSame, Extends, InputLaws}
use Rattle.nom_traits.specs.Rests.{same_cut, items_len-ones}
use Rattle.nom_traits.specs.Slices.{IsCount}
use Rattle.nom_traits.specs.Bits.{all_bits, whole_bytes, bits_over, AreBytes, HasMarks, BitPlace, past_bits, bits_model}
use Rattle.nom_traits.specs.BitLists.{whole-all_bits, over-all_bits, few_bits, take-all_bits, drop-all_bits, bytes_taken}

-- Kept bytes from a bit of their first on have fewer bits than whole bytes from a bit of their first on.
pub record BeginsLater (whole position kept left : ℕ) : Type 0 where
  pub position_in : position < 8
  pub left_in : left < 8
  pub some : 0 < kept
  pub within : kept ≤ whole
  pub fewer : 8 * kept - left < 8 * whole - position

module _ {I : Type 0} (w : Model I ℕ) where
  -- the mark of x without its first o / 8 bytes, or without all where there are fewer
  abbrev pub byte_mark : I → ℕ → w.Mark
  byte_mark x o = w.mark_after (w.mark x) (take (o / 8) (w.elements x))

  -- the o % 8 bits of the next byte that are passed, if there is a next byte
  abbrev pub passed_bits : I → ℕ → List Bool
  passed_bits x o = take (o % 8) (all_bits (drop (o / 8) (w.elements x)))

  -- What the mark of (x, o) tells: the mark of x without its first o / 8 bytes and, where inputs of I can differ in
  -- their marks, the passed bits of the next.
  pub record TellsMarks : Type 0 where
    pub bytes_told : (x y : I) (o p : ℕ) → w.IsKnown x → w.IsKnown y → (bits_model w).mark (x, o) ≡ (bits_model w).mark (y, p) → byte_mark x o ≡ byte_mark y p
    pub bits_told : (x y : I) (o p : ℕ) → w.IsKnown x → w.IsKnown y → (bits_model w).mark (x, o) ≡ (bits_model w).mark (y, p) → HasMarks w →
        passed_bits x o ≡ passed_bits y p
    pub no_more_told : (x y : I) (o p : ℕ) → w.IsKnown x → w.IsKnown y → byte_mark x o ≡ byte_mark y p → passed_bits x o ≡ passed_bits y p →
        (bits_model w).mark (x, o) ≡ (bits_model w).mark (y, p)

  -- bits are equal as models where their lists are equal
  abbrev pub AreBitsAlone : Type 0
  AreBitsAlone = (x y : I) (o p : ℕ) → (bits_model w).elements (x, o) ≡ (bits_model w).elements (y, p) → IsSame (bits_model w) (x, o) (y, p)

  -- a longer input of bits is longer by whole bytes
  abbrev pub GrowsByBytes : Type 0
  GrowsByBytes = (x y : I) (o p : ℕ) → Extends (bits_model w) (x, o) (y, p) → (bytes : List ℕ) × w.IsMore bytes × AreBytes bytes ×
      ((bits_model w).elements (y, p) ≡ (bits_model w).elements (x, o) ++ all_bits bytes)

  -- past n bits of (x, o) stands what is (n + o) / 8 bytes on in x, from its bit (n + o) % 8 on
  abbrev pub PassesBits : Type 0
  PassesBits = (x j : I) (o n k : ℕ) → w.IsKnown x → IsBoundary (bits_model w) (x, o) n → IsCount w x ((n + o) / 8) k → IsSuffixOf w x k j →
      IsSuffixOf (bits_model w) (x, o) n (j, (n + o) % 8)

  pub grows_by_bytes : GrowsByBytes
  grows_by_bytes x y o p e = (e.added.bytes, e.added.more, e.added.are_bytes, e.whole ∙ ap (λ bs. (bits_model w).elements (x, o) ++ bs) e.added.bits_are)

  -- where inputs of I do not differ in their marks, inputs of bits do not
  no_marks : ((m n : w.Mark) → m ≡ n) → (m n : BitPlace w) → m ≡ n
  no_marks h m n =
      let told : HasMarks w → List Bool = m.1 in
      let same : m.1 ≡ n.1 = fun_ext (λ marks. absurd (marks h)) in
      ap (λ k. (k, m.1)) (h m.0 n.0) ∙ ap (λ t. (n.0, t)) same

  pub bits_alone : ((m n : w.Mark) → m ≡ n) → AreBitsAlone
  bits_alone h x y o p e = record { elements_are = e; mark_is = fun_ext (λ bs. no_marks h ((bits_model w).mark (x, o) bs) ((bits_model w).mark (y, p) bs)) }

  module _ (l : InputLaws w) where
    -- past the bits of bytes: past the bytes
    pub past_all_bits : (m : w.Mark) (xs : List ℕ) (bs : List Bool) → AreBytes xs → past_bits w m (all_bits xs ++ bs) ≡ past_bits w (w.mark_after m xs) bs
    past_all_bits m xs bs h =
        ap (λ ys. (w.mark_after m ys, λ (t : HasMarks w). bits_over (all_bits xs ++ bs))) (whole-all_bits xs bs h)
        ∙ ap (λ k. (k, λ (t : HasMarks w). bits_over (all_bits xs ++ bs))) (l.mark_more m xs (whole_bytes bs))
        ∙ ap (λ os. (w.mark_after (w.mark_after m xs) (whole_bytes bs), λ (t : HasMarks w). os)) (over-all_bits xs bs)

    -- past fewer bits than a byte has
    past_few : (m : w.Mark) (bs : List Bool) → length bs < 8 → past_bits w m bs ≡ (m, λ _. bs)
    past_few m bs h =
        let few = few_bits bs h in
        ap (λ ys. (w.mark_after m ys, λ (t : HasMarks w). bits_over bs)) few.0
        ∙ ap (λ k. (k, λ (t : HasMarks w). bits_over bs)) (l.mark_none m)
        ∙ ap (λ os. (m, λ (t : HasMarks w). os)) few.1

    -- the mark of (x, o), from the place between two bytes before it
    mark_from : (x : I) (o : ℕ) (bs : List Bool) → AreBytes (w.elements x) → (bits_model w).mark (x, o) bs ≡ past_bits w (byte_mark x o) (passed_bits x o ++ bs)
    mark_from x o bs h =
        let f = take (o / 8) (w.elements x) in
        let parts : o ≡ 8 * (o / 8) + o % 8 = omega arith in
        let bits : take o (all_bits (w.elements x)) ≡ all_bits f ++ passed_bits x o =
        ap (λ n. take n (all_bits (w.elements x))) parts ∙ take-all_bits (o / 8) (o % 8) (w.elements x) in
        ap (λ ys. past_bits w (w.mark x) (ys ++ bs)) bits
        ∙ ap (past_bits w (w.mark x)) (append_assoc (all_bits f) (passed_bits x o) bs)
        ∙ past_all_bits (w.mark x) f (passed_bits x o ++ bs) (bytes_taken (o / 8) (w.elements x) h)

    few_passed : (x : I) (o : ℕ) → length (passed_bits x o) < 8
    few_passed x o =
        let ys = all_bits (drop (o / 8) (w.elements x)) in
        omega (arith, length-take (o % 8) ys, mod-lt o {m = 8} (lit< tt))

    -- the mark of (x, o), with no bits after it
    mark_there : (x : I) (o : ℕ) → AreBytes (w.elements x) → (bits_model w).mark (x, o) [] ≡ (byte_mark x o, λ _. passed_bits x o)
    mark_there x o h =
        mark_from x o [] h
        ∙ ap (past_bits w (byte_mark x o)) (append-nil (passed_bits x o))
        ∙ past_few (byte_mark x o) (passed_bits x o) (few_passed x o)

    module _ (values : (i : I) → w.IsKnown i → AreBytes (w.elements i)) where
      pub tells_marks : TellsMarks
      tells_marks =
          let same : (x y : I) (o p : ℕ) → w.IsKnown x → w.IsKnown y → (bits_model w).mark (x, o) ≡ (bits_model w).mark (y, p) →
          ◌≡◌ {A = BitPlace w} (byte_mark x o, λ _. passed_bits x o) (byte_mark y p, λ _. passed_bits y p) =
          λ x y o p h k e. sym (mark_there x o (values x h)) ∙ ap (λ m. m []) e ∙ mark_there y p (values y k) in
          record {
            bytes_told = λ x y o p h k e. ap (λ m. m.0) (same x y o p h k e);
            bits_told = λ x y o p h k e marks. ap (λ m. m.1 marks) (same x y o p h k e);
            no_more_told = λ x y o p h k e f. fun_ext (λ bs. mark_from x o bs (values x h) ∙ ap (λ m. past_bits w m (passed_bits x o ++ bs)) e ∙
                ap (λ ps. past_bits w (byte_mark y p) (ps ++ bs)) f ∙ sym (mark_from y p bs (values y k)));
          }

      pub passes_bits : PassesBits
      passes_bits x j o n k h p c q =
          let xs = w.elements x in
          let js = w.elements j in
          let bits = all_bits xs in
          let b = (n + o) / 8 in
          let r = (n + o) % 8 in
          let cut = same_cut w.item_len l.positive q.front js c.place.front c.place.rest (sym q.whole ∙ c.place.whole) (q.length_is ∙ sym c.place.length_is) in
          let count : length q.front ≡ b = ap length cut.0 ∙ c.count_is in
          let front : take b xs ≡ q.front = ap (take b) q.whole ∙ ap (λ m. take m (q.front ++ js)) (sym count) ∙ take-append_seam q.front js in
          let rest : drop b xs ≡ js = ap (drop b) q.whole ∙ drop_at q.front js b count in
          let parts : o + n ≡ 8 * b + r = omega arith in
          let dropped : drop n (drop o bits) ≡ drop r (all_bits js) =
          drop-drop n o bits ∙ ap (λ m. drop m bits) parts ∙ drop-all_bits b r xs ∙ ap (λ ys. drop r (all_bits ys)) rest in
          let taken : take o bits ++ take n (drop o bits) ≡ all_bits q.front ++ take r (all_bits js) = sym (take-add o n bits) ∙
          ap (λ m. take m bits) parts ∙ take-all_bits b r xs ∙ ap (λ ys. all_bits ys ++ take r (all_bits (drop b xs))) front ∙
          ap (λ ys. all_bits q.front ++ take r (all_bits ys)) rest in
          let within : n ≤ length (drop o bits) = omega (arith, ap length p.whole, length-append p.front p.rest, items_len-ones p.front, p.length_is) in
          let known : AreBytes q.front = subst AreBytes front (bytes_taken b xs (values x h)) in
          record {
            known = q.known;
            front = take n (drop o bits);
            whole = sym (take-append-drop n (drop o bits)) ∙ ap (λ ys. take n (drop o bits) ++ ys) dropped;
            length_is = items_len-ones (take n (drop o bits)) ∙ length-take-le n (drop o bits) within;
            mark_is = fun_ext (λ bs.
                ap (λ m. past_bits w m (take r (all_bits js) ++ bs)) q.mark_is
                ∙ sym (past_all_bits (w.mark x) q.front (take r (all_bits js) ++ bs) known)
                ∙ sym (ap (past_bits w (w.mark x))
                (sym (append_assoc (take o bits) (take n (drop o bits)) bs) ∙ ap (λ ys. ys ++ bs) taken ∙
                append_assoc (all_bits q.front) (take r (all_bits js)) bs)));
          }
