-- Where bytes stand in bytes.
use Rattle.std.proofs.Common.{◌≡◌, ℕ, ◌+◌, ◌-◌, ◌≤◌, ◌<◌, ◌++◌, Bool, true, List, length, take, drop, get_or, sym, ◌∙◌, ap, subst, inl, inr, arith}
use Rattle.std.proofs.Common.{length-append, length-drop}
use Rattle.std.specs.Prelude.{Some, None}
use Rattle.std.proofs.lemmas.Bool.{cases_lt}
use Rattle.std.proofs.Math.Seq.{take-append_seam, drop-append_seam}
use Rattle.std.proofs.lemmas.List.{length-take-le, take-append-drop, take_all, get_or-take, get_or-drop}
use Rattle.memchr.specs.Find.{IsFirst, IsFirstByte, Nowhere, OccursAt, Passes, FindsNeedle}
use Rattle.memchr.proofs.lemmas.MatchLemmas.{OccursAt-split, OccursAt-from_part}
use Rattle.nom_traits.specs.Rests.{items_len-ones}
use Rattle.nom_search.specs.Substrings.{IsFoundAt, FindsBytes}

-- the bytes from a place on, as a slice gives them
pub rest_is : (bs : List ℕ) (n : ℕ) → take (length bs - n) (drop n bs) ≡ drop n bs
rest_is bs n = take_all (length bs - n) (drop n bs) (omega (arith, length-drop n bs))

module _ (bs t : List ℕ) where
  stands : (n : ℕ) → OccursAt bs t n → IsFoundAt (λ _. 1) t bs n
  stands n h = record {
    before = take n bs;
    rest = drop (n + length t) bs;
    whole = sym (take-append-drop n bs) ∙ ap (λ ys. take n bs ++ ys) (OccursAt-split bs t n h);
    length_is = items_len-ones (take n bs) ∙ length-take-le n bs (omega (arith, h.fits));
  }

  occurs : (n : ℕ) → IsFoundAt (λ _. 1) t bs n → OccursAt bs t n
  occurs n s =
      let size : n ≡ length s.before = sym s.length_is ∙ items_len-ones s.before in
      let dropped : drop n bs ≡ t ++ s.rest =
      ap (λ ys. drop n ys) s.whole ∙ (ap (λ k. drop k (s.before ++ (t ++ s.rest))) size ∙ drop-append_seam s.before (t ++ s.rest)) in
      OccursAt-from_part bs t n (omega (arith, size, ap length s.whole, length-append s.before (t ++ s.rest), length-append t s.rest))
      (ap (λ ys. take (length t) ys) dropped ∙ take-append_seam t s.rest)

  -- what the searcher finds after a place before which the needle stands nowhere
  module _ (start : ℕ) (room : start ≤ length bs) (none : Nowhere (OccursAt bs t) 0 start) where
    occurs_on : (n : ℕ) → OccursAt (drop start bs) t n → OccursAt bs t (start + n)
    occurs_on n h = record {
      fits = omega (arith, h.fits, length-drop start bs, room);
      reads = λ j l. ap (λ k. get_or bs k 0) (omega arith) ∙ sym (get_or-drop start bs (n + j) 0) ∙ h.reads j l;
    }

    occurs_back : (n : ℕ) → OccursAt bs t (start + n) → OccursAt (drop start bs) t n
    occurs_back n h = record {
      fits = omega (arith, h.fits, length-drop start bs, room);
      reads = λ j l. get_or-drop start bs (n + j) 0 ∙ ap (λ k. get_or bs k 0) (omega arith) ∙ h.reads j l;
    }

    -- a place where the needle stands is as far after the start
    after : (m : ℕ) → OccursAt bs t m → (n : ℕ) × (m ≡ start + n) × OccursAt (drop start bs) t n
    after m h =
        elim (cases_lt m start) [
          | inl k ↦ absurd (none m (omega arith) k h)
          | inr k ↦
              let same : m ≡ start + (m - start) = omega arith in
              (m - start, same, occurs_back (m - start) (subst (OccursAt bs t) same h))
        ]

    pub found_there : OccursAt (drop start bs) t 0 → FindsBytes t bs (Some start)
    found_there h =
        let same : start + 0 ≡ start = omega arith in (
          stands start (subst (OccursAt bs t) same (occurs_on 0 h)),
          λ m s. let b = after m (occurs m s) in omega (arith, b.1),
        )

    pub found_after : (n : ℕ) → FindsNeedle (drop start bs) t 0 (Some n) → FindsBytes t bs (Some (start + n))
    found_after n h = (
      stands (start + n) (occurs_on n h.1),
      λ m s.
          let b = after m (occurs m s) in
          elim (cases_lt b.0 n) [ inl k ↦ absurd ((h.0).before b.0 (omega arith) k b.2) | inr k ↦ omega (arith, k, b.1) ],
    )

    pub none_after : FindsNeedle (drop start bs) t 0 None → FindsBytes t bs None
    none_after h = λ m s.
        let b = after m (occurs m s) in
        let o = b.2 in
        h b.0 (omega arith) (omega (arith, o.fits)) o

  pub nowhere : Nowhere (OccursAt bs t) 0 (length bs + 1) → FindsBytes t bs None
  nowhere h = λ m s. let o = occurs m s in h m (omega arith) (omega (arith, o.fits)) o

-- a search of the bytes from `start` up to `end`
module _ (test : ℕ → Bool) (bs : List ℕ) (start end : ℕ) (ordered : start ≤ end) (room : end ≤ length bs) where
  abbrev part : List ℕ
  part = take (end - start) (drop start bs)

  size : length part ≡ end - start
  size = length-take-le (end - start) (drop start bs) (omega (arith, length-drop start bs, ordered, room))

  at : (k : ℕ) → k < end - start → get_or part k 0 ≡ get_or bs (start + k) 0
  at k l = get_or-take (end - start) (drop start bs) k 0 l ∙ get_or-drop start bs k 0

  back : (m : ℕ) → start ≤ m → m < end → Passes test bs m → Passes test part (m - start)
  back m low high p =
      let same : m ≡ start + (m - start) = omega arith in
      subst (λ x. test x ≡ true) (sym (at (m - start) (omega arith))) (subst (Passes test bs) same p)

  pub found_in_part : (k : ℕ) → IsFirstByte test part (Some k) → IsFirst (Passes test bs) start end (Some (start + k))
  found_in_part k h =
      let short : k < end - start = omega (arith, h.0.high, size) in (
        record {
          low = omega arith;
          high = omega (arith, short, ordered);
          before = λ m low high p. h.0.before (m - start) (omega arith) (omega arith) (back m low (omega (arith, short)) p);
        },
        subst (λ x. test x ≡ true) (at k short) h.1,
      )

  pub none_in_part : IsFirstByte test part None → IsFirst (Passes test bs) start end None
  none_in_part h = λ m low high p. h (m - start) (omega arith) (omega (arith, size)) (back m low high p)
