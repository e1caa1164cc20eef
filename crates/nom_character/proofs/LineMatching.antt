-- Lemmas on the match that was found at the start of an input.
use Rattle.std.proofs.Common.{◌≡◌, ℕ, ◌+◌, ◌==◌, Bool, true, false, cond, ◌||◌, suc, Option, Some, None, List, [], ◌∷◌, ◌++◌, length, refl, sym, ◌∙◌}
use Rattle.std.proofs.Common.{ap, subst, arith, append-nil}
use Rattle.std.specs.List.{All}
use Rattle.std.proofs.lemmas.List.Elements.{All-head, All-tail}
use Rattle.nom_internal.specs.Prelude.{Needed, Unknown, size_of, Model, InputLaws, IsSuffixOf, items_len, input_len, EndsAt, same_cut, rest_rest}
use Rattle.std.proofs.lemmas.Bool.Decides.{nat_tests}
use Rattle.nom_character.specs.declared.line.Matched.{Matched}
use Rattle.nom_character.specs.declared.line.Matched.TheVariants as Found
use Rattle.nom_character_first.specs.FirstItem.{IsFirstItem}
use Rattle.nom_character_first.specs.laws.FirstItemLaws.{one_head}
use Rattle.nom_character.specs.LineMatches.{Match, at_end, one_item_more, after_return, crlf_in, line_ending_in, line_in, is_line_code, IsMatched, IsNewline}
use Rattle.nom_character.specs.LineMatches.{IsLineEnd}
use Rattle.nom_character.specs.LineMatches.Match.{Full, Absent, Partial}

by_true : (b : Bool) (p q : Match) → b ≡ true → cond b p q ≡ p
by_true true p q e = refl
by_true false p q e = absurd (cc (e))

by_false : (b : Bool) (p q : Match) → b ≡ false → cond b p q ≡ q
by_false true p q e = absurd (cc (e))
by_false false p q e = refl

pub ended_open : (s : Bool) (lack : Option ℕ) (pattern : Match) → s ≡ true → at_end s lack pattern ≡ Partial lack
ended_open true lack pattern e = refl
ended_open false lack pattern e = absurd (cc (e))

pub ended : (s : Bool) (lack : Option ℕ) (pattern : Match) → s ≡ false → at_end s lack pattern ≡ pattern
ended true lack pattern e = absurd (cc (e))
ended false lack pattern e = refl

module _ {I A : Type 0} (w : Model I A) (code : A → ℕ) (s : Bool) where
  module _ (lack : Option ℕ) (i : I) where
    pub newline_stands : (x : A) (j : I) → IsFirstItem w i x → IsSuffixOf w i (w.item_len x) j → (code x == 10) ≡ true →
        IsNewline w code s lack i (Found.Full j)
    newline_stands x j p r e = (x, p, r, λ found. ap (after_return code s found lack) p.whole ∙ by_true (code x == 10) found Absent e)

    pub newline_absent : (x : A) → IsFirstItem w i x → (code x == 10) ≡ false → IsNewline w code s lack i Found.Absent
    newline_absent x p e = λ found. ap (after_return code s found lack) p.whole ∙ by_false (code x == 10) found Absent e

    pub newline_ends : w.elements i ≡ [] → s ≡ false → IsNewline w code s lack i Found.Absent
    newline_ends e f = λ found. ap (after_return code s found lack) e ∙ ended s lack Absent f

  pub newline_begins : (i : I) (k : Needed) → w.elements i ≡ [] → s ≡ true → IsNewline w code s (size_of k) i (Found.Partial k)
  newline_begins i k e f = (f, λ found. ap (after_return code s found (size_of k)) e ∙ ended_open s (size_of k) Absent f)

-- a code point, as it is compared
pub is_code : (c x k : ℕ) → c ≡ x → c ≡ k → (x == k) ≡ true
is_code c x k e f = let g : x ≡ k = sym e ∙ f in grind (arith, nat_tests, g)

pub other_code : (c x k : ℕ) → c ≡ x → (c ≡ k → ⊥) → (x == k) ≡ false
other_code c x k e f = let g : x ≡ k → ⊥ = λ h. f (e ∙ h) in grind (arith, nat_tests, g)

module _ {I A : Type 0} (w : Model I A) (l : InputLaws w) where
  pub after_head : (i j : I) (x : A) → IsFirstItem w i x → IsSuffixOf w i (w.item_len x) j → w.elements i ≡ x ∷ w.elements j
  after_head i j x p r =
      let one : items_len w.item_len (x ∷ []) ≡ w.item_len x = omega arith in
      let cut = same_cut w.item_len l.positive r.front (w.elements j) (x ∷ []) p.rest (sym r.whole ∙ p.whole) (r.length_is ∙ sym one) in
      p.whole ∙ ap (λ xs. x ∷ xs) (sym cut.1)

  -- the items before a rest are those of a front of the same length
  pub before_rest : (i j : I) (n : ℕ) (xs : List A) → (r : IsSuffixOf w i n j) → w.elements i ≡ xs ++ w.elements j → items_len w.item_len xs ≡ n → r.front ≡ xs
  before_rest i j n xs r e h = (same_cut w.item_len l.positive r.front (w.elements j) xs (w.elements j) (sym r.whole ∙ e) (r.length_is ∙ sym h)).0

  module _ (code : A → ℕ) (s : Bool) (pattern : Bool → List A → Match) (i j : I) (x : A) (p : IsFirstItem w i x) (r : IsSuffixOf w i (w.item_len x) j) where
    -- the first item alone
    pub one_stands : pattern s (w.elements i) ≡ Full 1 → IsMatched w pattern s i (Found.Full j)
    one_stands e =
        let whole = after_head i j x p r in
        let one : items_len w.item_len (x ∷ []) ≡ w.item_len x = omega arith in
        let front = before_rest i j (w.item_len x) (x ∷ []) r whole one in
        (w.item_len x, r, e ∙ ap Full (sym (ap length front)))

    -- the first item, with an `\n` wanted after it
    pub return_shown : (lack : Option ℕ) → pattern s (w.elements i) ≡ after_return code s (Full 2) lack (w.elements j) → (found : Matched I) →
        IsNewline w code s lack j found → IsMatched w pattern s i found
    return_shown lack e (Found.Full k) h =
        let whole = after_head i j x p r in
        let after = after_head j k h.0 h.1 h.2 in
        let both = rest_rest w l i (w.item_len x) j (w.item_len h.0) k r h.2 in
        let two : items_len w.item_len (x ∷ (h.0 ∷ [])) ≡ w.item_len x + w.item_len h.0 = omega arith in
        let front = before_rest i k (w.item_len x + w.item_len h.0) (x ∷ (h.0 ∷ [])) both (whole ∙ ap (λ xs. x ∷ xs) after) two in
        (w.item_len x + w.item_len h.0, both, e ∙ (h.3 (Full 2) ∙ ap Full (sym (ap length front))))
    return_shown lack e Found.Absent h = e ∙ h (Full 2)
    return_shown lack e (Found.Partial k) h = (h.0, subst (λ b. pattern b (w.elements i) ≡ Partial (size_of k)) h.0 (e ∙ h.1 (Full 2)))

  module _ (code : A → ℕ) (s : Bool) (i j : I) (x : A) (p : IsFirstItem w i x) (r : IsSuffixOf w i (w.item_len x) j) (lack : Option ℕ) (two : lack ≡ Some 2)
      (found : Matched I) (h : IsNewline w code s lack j found) where
    pub crlf_shown : (code x == 13) ≡ true → IsMatched w (crlf_in code) s i found
    crlf_shown t =
        let e = ap (crlf_in code s) (after_head i j x p r) ∙ by_true (code x == 13) (after_return code s (Full 2) (Some 2) (w.elements j)) Absent t in
        return_shown code s (crlf_in code) i j x p r (Some 2) e found (subst (λ z. IsNewline w code s z j found) two h)

    pub line_ending_shown : (code x == 10) ≡ false → (code x == 13) ≡ true → IsMatched w (line_ending_in code) s i found
    line_ending_shown f t =
        let after = after_return code s (Full 2) (Some 2) (w.elements j) in
        let e = ap (line_ending_in code s) (after_head i j x p r) ∙
        (by_false (code x == 10) (Full 1) (cond (code x == 13) after Absent) f ∙ by_true (code x == 13) after Absent t) in
        return_shown code s (line_ending_in code) i j x p r (Some 2) e found (subst (λ z. IsNewline w code s z j found) two h)

  pub newline_first : (code : A → ℕ) (s : Bool) (i j : I) (x : A) → (p : IsFirstItem w i x) → (r : IsSuffixOf w i (w.item_len x) j) → (code x == 10) ≡ true →
      IsMatched w (line_ending_in code) s i (Found.Full j)
  newline_first code s i j x p r t =
      let e = ap (line_ending_in code s) (after_head i j x p r) ∙
      by_true (code x == 10) (Full 1) (cond (code x == 13) (after_return code s (Full 2) (Some 2) (w.elements j)) Absent) t in
      one_stands code s (line_ending_in code) i j x p r e

-- that many items before
abbrev later : Match → ℕ → Match
later (Full n) k = Full (n + k)
later Absent k = Absent
later (Partial lack) k = Partial lack

zero_more : (n : ℕ) → 0 + n ≡ n
zero_more n = omega arith

later_none : (a : Match) → later a 0 ≡ a
later_none (Full n) = let e : n + 0 ≡ n = omega arith in ap Full e
later_none Absent = refl
later_none (Partial lack) = refl

later_more : (a : Match) (k : ℕ) → one_item_more (later a k) ≡ later a (suc k)
later_more (Full n) k = let e : (n + k) + 1 ≡ n + suc k = omega arith in ap Full e
later_more Absent k = refl
later_more (Partial lack) k = refl

neither : (c : ℕ) → is_line_code c ≡ false → ((c == 10) ≡ false) × ((c == 13) ≡ false)
neither c h = split (c == 10) (c == 13) h
  where
    split : (a b : Bool) → (a || b) ≡ false → (a ≡ false) × (b ≡ false)
    split true b e = absurd (cc (e))
    split false b e = (refl, e)

other_one : (c : ℕ) → is_line_code c ≡ true → (c == 10) ≡ false → (c == 13) ≡ true
other_one c h f = split (c == 10) (c == 13) h f
  where
    split : (a b : Bool) → (a || b) ≡ true → a ≡ false → b ≡ true
    split true b e f = absurd (cc (f))
    split false b e f = e

module _ {A : Type 0} (code : A → ℕ) (s : Bool) where
  abbrev Passes : A → Type 0
  Passes x = is_line_code (code x) ≡ false

  -- after items that end no line it is as without them, that many items later
  past : (xs ys : List A) → All Passes xs → line_in code s (xs ++ ys) ≡ later (line_in code s ys) (length xs)
  past [] ys h = sym (later_none (line_in code s ys))
  past (x ∷ xs) ys h =
      let none = neither (code x) (All-head Passes x xs h) in
      let after = after_return code s (Full 0) None (xs ++ ys) in
      let line = line_in code s (xs ++ ys) in
      by_false (code x == 10) (Full 0) (cond (code x == 13) after (one_item_more line)) none.0 ∙
      (by_false (code x == 13) after (one_item_more line) none.1 ∙
      (ap one_item_more (past xs ys (All-tail Passes x xs h)) ∙ later_more (line_in code s ys) (length xs)))

module _ {I A : Type 0} (w : Model I A) (l : InputLaws w) (code : A → ℕ) (s : Bool) where
  module _ (i : I) (x : A) (p : IsFirstItem w i x) where
    pub line_ends : (code x == 10) ≡ true → IsLineEnd w code s i (Found.Full i)
    line_ends t = (
      refl,
      ap (line_in code s) p.whole ∙
          by_true (code x == 10) (Full 0) (cond (code x == 13) (after_return code s (Full 0) None p.rest) (one_item_more (line_in code s p.rest))) t,
    )

    module _ (y : A) (q : IsFirstItem w i y) (t : is_line_code (code y) ≡ true) (f : (code x == 10) ≡ false) (j : I) (r : IsSuffixOf w i (w.item_len x) j) where
      returns : line_in code s (w.elements i) ≡ after_return code s (Full 0) None (w.elements j)
      returns =
          let same : x ≡ y = one_head w i x y p q in
          let is = other_one (code x) (subst (λ z. is_line_code (code z) ≡ true) (sym same) t) f in
          let after = after_return code s (Full 0) None (w.elements j) in
          let line = one_item_more (line_in code s (w.elements j)) in
          ap (line_in code s) (after_head w l i j x p r) ∙
          (by_false (code x == 10) (Full 0) (cond (code x == 13) after line) f ∙ by_true (code x == 13) after line is)

      pub return_stands : (found : Matched I) (k : I) → found ≡ Found.Full k → IsNewline w code s None j found → IsLineEnd w code s i (Found.Full i)
      return_stands found k e h = let n = subst (IsNewline w code s None j) e h in (refl, returns ∙ n.3 (Full 0))

      pub return_absent : (found : Matched I) → found ≡ Found.Absent → IsNewline w code s None j found → IsLineEnd w code s i Found.Absent
      return_absent found e h = let n = subst (IsNewline w code s None j) e h in returns ∙ n (Full 0)

      pub return_begins : (found : Matched I) (k : Needed) → found ≡ Found.Partial k → IsNewline w code s None j found → IsLineEnd w code s i (Found.Partial k)
      return_begins found k e h = let n = subst (IsNewline w code s None j) e h in (n.0, returns ∙ n.1 (Full 0))

  module _ (Meets Ends : A → Type 0) (meets : (x : A) → Meets x → is_line_code (code x) ≡ false) where
    all_pass : (xs : List A) → All Meets xs → All (Passes code s) xs
    all_pass xs h k d p = meets _ (h k d p)

    -- the rest that begins with the item which ends the run
    pub end_head : (i j : I) (n : ℕ) → (e : EndsAt w Meets Ends i n) → IsSuffixOf w i n j → IsFirstItem w j e.item
    end_head i j n e r =
        let cut = same_cut w.item_len l.positive r.front (w.elements j) e.run (e.item ∷ e.rest) (sym r.whole ∙ e.is_run.whole)
        (r.length_is ∙ sym e.length_is) in
        record { rest = e.rest; whole = cut.1 }

    pub line_shown : (i j : I) (n : ℕ) → EndsAt w Meets Ends i n → IsSuffixOf w i n j → (found : Matched I) → IsLineEnd w code s j found →
        IsMatched w (line_in code) s i found
    line_shown i j n e r found h = shown found h
      where
        cut : (r.front ≡ e.run) × (w.elements j ≡ e.item ∷ e.rest)
        cut = same_cut w.item_len l.positive r.front (w.elements j) e.run (e.item ∷ e.rest) (sym r.whole ∙ e.is_run.whole) (r.length_is ∙ sym e.length_is)

        line : line_in code s (w.elements i) ≡ later (line_in code s (w.elements j)) (length r.front)
        line = ap (line_in code s) r.whole ∙ past code s r.front (w.elements j) (subst (All (Passes code s)) (sym cut.0) (all_pass e.run e.is_run.meets))

        shown : (found : Matched I) → IsLineEnd w code s j found → IsMatched w (line_in code) s i found
        shown (Found.Full k) h =
            let stands = line ∙ (ap (λ a. later a (length r.front)) h.1 ∙ ap Full (zero_more (length r.front))) in
            subst (λ z. IsMatched w (line_in code) s i (Found.Full z)) (sym h.0) (n, r, stands)
        shown Found.Absent h = line ∙ ap (λ a. later a (length r.front)) h
        shown (Found.Partial k) h = (h.0, subst (λ b. line_in code b (w.elements i) ≡ Partial (size_of k)) h.0 (line ∙ ap (λ a. later a (length r.front)) h.1))

    module _ (i : I) (h : All Meets (w.elements i)) where
      no_end : line_in code s (w.elements i) ≡ later (at_end s None (Full 0)) (length (w.elements i))
      no_end = ap (line_in code s) (sym (append-nil (w.elements i))) ∙ past code s (w.elements i) [] (all_pass (w.elements i) h)

      pub all_stands : (j : I) → IsSuffixOf w i (input_len w i) j → s ≡ false → IsMatched w (line_in code) s i (Found.Full j)
      all_stands j r f =
          let cut = same_cut w.item_len l.positive r.front (w.elements j) (w.elements i) [] (sym r.whole ∙ sym (append-nil (w.elements i))) r.length_is in
          let stands = no_end ∙ (ap (λ a. later a (length (w.elements i))) (ended s None (Full 0) f) ∙ ap Full (zero_more (length (w.elements i)))) in
          (input_len w i, r, stands ∙ ap Full (sym (ap length cut.0)))

      pub all_begins : s ≡ true → IsMatched w (line_in code) s i (Found.Partial Unknown)
      all_begins t = (
        t,
        subst (λ b. line_in code b (w.elements i) ≡ Partial None) t
            (no_end ∙ ap (λ a. later a (length (w.elements i))) (ended_open s None (Full 0) t)),
      )
