-- Zeros before and after digits, one by one.
use Rattle.std.proofs.Common.{◌≡◌, ℕ, ◌+◌, ◌<◌, ◌≤◌, ◌==◌, Bool, true, false, cond, Option, Some, None, List, [], ◌∷◌, ◌++◌, length, refl, sym, ◌∙◌}
use Rattle.std.proofs.Common.{ap, arith, append_assoc, append-nil, length-append}
use Rattle.std.specs.Iterator.{AlwaysYields}
use Rattle.std.proofs.lemmas.Bool.Decides.{nat_tests}
use Rattle.nom_internal.specs.Prelude.{Model, InputLaws, IsPrefixOf, IsBoundary, IsSuffixOf, items_len, same_cut, items_len-append, Slice, IsModelledBy}
use Rattle.nom_character_first.proofs.Firsts.{some_given, none_given}
use Rattle.nom_number_text.specs.Parts.{integer_of, zeros_of, kept_before, trimmed, fraction_of, integer_slice, fraction_slice}

is_zero : (c : ℕ) → c ≡ 48 → (c == 48) ≡ true
is_zero c e = grind (arith, nat_tests, e)

no_zero : (c : ℕ) → (c ≡ 48 → ⊥) → (c == 48) ≡ false
no_zero c e = grind (arith, nat_tests, e)

module _ {A : Type 0} (code : A → ℕ) where
  none_kept : (b : Bool) (xs : List A) → b ≡ false → cond b xs [] ≡ []
  none_kept true xs e = absurd (cc (e))
  none_kept false xs e = refl

  one_kept : (b : Bool) (xs : List A) → b ≡ true → cond b xs [] ≡ xs
  one_kept true xs e = refl
  one_kept false xs e = absurd (cc (e))

  zeros_stop : (x : A) (xs : List A) → (code x == 48) ≡ false → zeros_of code (x ∷ xs) ≡ []
  zeros_stop x [] e = refl
  zeros_stop x (y ∷ xs) e = none_kept (code x == 48) (x ∷ zeros_of code (y ∷ xs)) e

  zeros_go : (x : A) (xs : List A) → 0 < length xs → (code x == 48) ≡ true → zeros_of code (x ∷ xs) ≡ x ∷ zeros_of code xs
  zeros_go x [] h e = absurd (omega (arith, h))
  zeros_go x (y ∷ xs) h e = one_kept (code x == 48) (x ∷ zeros_of code (y ∷ xs)) e

  pub integer_whole : (xs : List A) → xs ≡ zeros_of code xs ++ integer_of code xs
  integer_whole [] = refl
  integer_whole (x ∷ []) = refl
  integer_whole (x ∷ (y ∷ xs)) = by (code x == 48) (integer_whole (y ∷ xs))
    where
      by : (b : Bool) → y ∷ xs ≡ zeros_of code (y ∷ xs) ++ integer_of code (y ∷ xs) → x ∷ (y ∷ xs) ≡ cond b (x ∷ zeros_of code (y ∷ xs)) [] ++
          cond b (integer_of code (y ∷ xs)) (x ∷ (y ∷ xs))
      by true e = ap (λ ys. x ∷ ys) e
      by false e = refl

  kept_some : (x : A) (xs : List A) → 0 < length xs → kept_before code x xs ≡ x ∷ xs
  kept_some x [] h = absurd (omega (arith, h))
  kept_some x (y ∷ xs) h = refl

  some_after : (xs : List A) (x : A) → 0 < length (xs ++ x ∷ [])
  some_after xs x = omega (arith, length-append xs (x ∷ []))

  one_left : (b : Bool) (x : A) → b ≡ false → cond b [] (x ∷ []) ≡ x ∷ []
  one_left true x e = absurd (cc (e))
  one_left false x e = refl

  none_left : (b : Bool) (x : A) → b ≡ true → cond b [] (x ∷ []) ≡ []
  none_left true x e = refl
  none_left false x e = absurd (cc (e))

  trimmed_more : (xs : List A) (x : A) → (code x == 48) ≡ false → trimmed code (xs ++ x ∷ []) ≡ xs ++ x ∷ []
  trimmed_more [] x e = one_left (code x == 48) x e
  trimmed_more (y ∷ xs) x e = ap (kept_before code y) (trimmed_more xs x e) ∙ kept_some y (xs ++ x ∷ []) (some_after xs x)

  trimmed_zero : (xs : List A) (x : A) → (code x == 48) ≡ true → trimmed code (xs ++ x ∷ []) ≡ trimmed code xs
  trimmed_zero [] x e = none_left (code x == 48) x e
  trimmed_zero (y ∷ xs) x e = ap (kept_before code y) (trimmed_zero xs x e)

  fraction_more : (xs : List A) (x : A) → (code x == 48) ≡ false → fraction_of code (xs ++ x ∷ []) ≡ xs ++ x ∷ []
  fraction_more [] x e = refl
  fraction_more (y ∷ xs) x e = ap (λ ys. y ∷ ys) (trimmed_more xs x e)

  fraction_zero : (xs : List A) (x : A) → 0 < length xs → (code x == 48) ≡ true → fraction_of code (xs ++ x ∷ []) ≡ fraction_of code xs
  fraction_zero [] x h e = absurd (omega (arith, h))
  fraction_zero (y ∷ xs) x h e = ap (λ ys. y ∷ ys) (trimmed_zero xs x e)

  after_kept : (x : A) (xs ys rest : List A) → xs ≡ ys ++ rest → (more : List A) × (x ∷ xs ≡ kept_before code x ys ++ more)
  after_kept x xs [] rest e = by (code x == 48)
    where
      by : (b : Bool) → (more : List A) × (x ∷ xs ≡ cond b [] (x ∷ []) ++ more)
      by true = (x ∷ xs, refl)
      by false = (xs, refl)
  after_kept x xs (y ∷ ys) rest e = (rest, ap (λ zs. x ∷ zs) e)

  trimmed_whole : (xs : List A) → (rest : List A) × (xs ≡ trimmed code xs ++ rest)
  trimmed_whole [] = ([], refl)
  trimmed_whole (x ∷ xs) = let r = trimmed_whole xs in after_kept x xs (trimmed code xs) r.0 r.1

  pub fraction_whole : (xs : List A) → (rest : List A) × (xs ≡ fraction_of code xs ++ rest)
  fraction_whole [] = ([], refl)
  fraction_whole (x ∷ xs) = let r = trimmed_whole xs in (r.0, ap (λ ys. x ∷ ys) r.1)

-- what has been passed of the items xs, up to a place; s gives the others
pub record IsPassed {A S : Type 0} (item_len : A → ℕ) (steps : S → Option A → S → Type 0) (xs : List A) (place : ℕ) (s : S) : Type 0 where
  pub passed : List A
  pub rest : List A
  pub whole : xs ≡ passed ++ rest
  pub gives : AlwaysYields steps (λ x. x) s rest
  pub place_is : place ≡ items_len item_len passed

-- the items that were passed are zeros before others
pub record IsZeros {A S : Type 0} (item_len : A → ℕ) (code : A → ℕ) (steps : S → Option A → S → Type 0) (xs : List A) (place : ℕ) (s : S) : Type 0 where
  pub before : IsPassed item_len steps xs place s
  pub zeros_are : zeros_of code xs ≡ before.passed ++ zeros_of code before.rest

-- of the items that were passed that many are kept
pub record IsKept {A S : Type 0} (item_len : A → ℕ) (code : A → ℕ) (steps : S → Option A → S → Type 0) (xs : List A) (place kept : ℕ) (s : S) : Type 0 where
  pub before : IsPassed item_len steps xs place s
  pub kept_is : kept ≡ items_len item_len (fraction_of code before.passed)

module _ {A S : Type 0} (item_len : A → ℕ) (positive : (a : A) → 0 < item_len a) (steps : S → Option A → S → Type 0) (xs : List A) where
  abbrev pub none_passed : (s : S) → AlwaysYields steps (λ x. x) s xs → IsPassed item_len steps xs 0 s
  none_passed s h = record { passed = []; rest = xs; whole = refl; gives = h; place_is = refl }

  module _ (place : ℕ) (s t : S) (p : IsPassed item_len steps xs place s) where
    pub all_passed : steps s None t → xs ≡ p.passed
    all_passed k = p.whole ∙ (ap (λ ys. p.passed ++ ys) (none_given steps s t p.rest p.gives k) ∙ append-nil p.passed)

    module _ (x : A) (k : steps s (Some x) t) where
      abbrev pub next : (ys : List A) × (p.rest ≡ x ∷ ys) × AlwaysYields steps (λ q. q) t ys
      next = some_given steps s t x p.rest p.gives k

      pub whole_next : xs ≡ (p.passed ++ x ∷ []) ++ next.0
      whole_next = p.whole ∙ (ap (λ ys. p.passed ++ ys) next.1 ∙ sym (append_assoc p.passed (x ∷ []) next.0))

      length_next : (m : ℕ) → m ≡ item_len x → place + m + items_len item_len next.0 ≡ items_len item_len xs
      length_next m e = omega (
        arith,
        p.place_is,
        e,
        ap (items_len item_len) whole_next,
        items_len-append item_len (p.passed ++ x ∷ []) next.0,
        items_len-append item_len p.passed (x ∷ []),
      )

      pub passed_fits : (m : ℕ) → m ≡ item_len x → place + m ≤ items_len item_len xs
      passed_fits m e = omega (arith, length_next m e)

      abbrev pub one_passed : (m : ℕ) → m ≡ item_len x → IsPassed item_len steps xs (place + m) t
      one_passed m e = record {
        passed = p.passed ++ x ∷ [];
        rest = next.0;
        whole = whole_next;
        gives = next.2;
        place_is = omega (arith, p.place_is, e, items_len-append item_len p.passed (x ∷ []));
      }

  module _ (code : A → ℕ) where
    pub zeros_begin : (s : S) → AlwaysYields steps (λ x. x) s xs → IsZeros item_len code steps xs 0 s
    zeros_begin s h = record { before = none_passed s h; zeros_are = refl }

    module _ (place : ℕ) (s t : S) (z : IsZeros item_len code steps xs place s) where
      pub zeros_end : steps s None t → place ≡ items_len item_len (zeros_of code xs)
      zeros_end k =
          let none = none_given steps s t z.before.rest z.before.gives k in
          z.before.place_is ∙ ap (items_len item_len) (sym (z.zeros_are ∙ (ap (λ ys. z.before.passed ++ zeros_of code ys) none ∙ append-nil z.before.passed)))

      module _ (x : A) (k : steps s (Some x) t) where
        zeros_here : zeros_of code (x ∷ (next place s t z.before x k).0) ≡ [] → place ≡ items_len item_len (zeros_of code xs)
        zeros_here e =
            let rest = (next place s t z.before x k).1 in
            z.before.place_is ∙ ap (items_len item_len)
            (sym (z.zeros_are ∙ (ap (λ ys. z.before.passed ++ zeros_of code ys) rest ∙ (ap (λ ys. z.before.passed ++ ys) e ∙ append-nil z.before.passed))))

        pub zeros_stopped : (code x ≡ 48 → ⊥) → place ≡ items_len item_len (zeros_of code xs)
        zeros_stopped h = zeros_here (zeros_stop code x (next place s t z.before x k).0 (no_zero (code x) h))

        none_after : (ys : List A) → items_len item_len ys ≡ 0 → ys ≡ []
        none_after [] e = refl
        none_after (y ∷ ys) e = absurd (omega (arith, e, positive y))

        some_there : (ys : List A) → (items_len item_len ys ≡ 0 → ⊥) → 0 < length ys
        some_there [] h = absurd (h refl)
        some_there (y ∷ ys) h = omega arith

        pub zeros_last : (m : ℕ) → m ≡ item_len x → place + m ≡ items_len item_len xs → place ≡ items_len item_len (zeros_of code xs)
        zeros_last m e h =
            let none = none_after (next place s t z.before x k).0 (omega (arith, h, length_next place s t z.before x k m e)) in
            zeros_here (ap (λ ys. zeros_of code (x ∷ ys)) none)

        pub zeros_more : (m : ℕ) → m ≡ item_len x → code x ≡ 48 → (place + m ≡ items_len item_len xs → ⊥) → IsZeros item_len code steps xs (place + m) t
        zeros_more m e zero h =
            let ys = (next place s t z.before x k).0 in
            let more = some_there ys (λ none. h (omega (arith, none, length_next place s t z.before x k m e))) in
            record {
              before = one_passed place s t z.before x k m e;
              zeros_are = z.zeros_are ∙ (ap (λ zs. z.before.passed ++ zeros_of code zs) (next place s t z.before x k).1 ∙
                  (ap (λ zs. z.before.passed ++ zs) (zeros_go code x ys more (is_zero (code x) zero)) ∙
                  sym (append_assoc z.before.passed (x ∷ []) (zeros_of code ys))));
            }

    pub kept_begin : (s : S) → AlwaysYields steps (λ x. x) s xs → IsKept item_len code steps xs 0 0 s
    kept_begin s h = record { before = none_passed s h; kept_is = refl }

    module _ (place kept : ℕ) (s t : S) (z : IsKept item_len code steps xs place kept s) where
      pub kept_end : steps s None t → kept ≡ items_len item_len (fraction_of code xs)
      kept_end k = z.kept_is ∙ ap (λ ys. items_len item_len (fraction_of code ys)) (sym (all_passed place s t z.before k))

      some_kept : (ys : List A) → items_len item_len (fraction_of code ys) ≡ 0 → ys ≡ []
      some_kept [] e = refl
      some_kept (y ∷ ys) e = absurd (omega (arith, e, positive y))

      some_passed : (ys : List A) → (items_len item_len (fraction_of code ys) ≡ 0 → ⊥) → 0 < length ys
      some_passed [] h = absurd (h refl)
      some_passed (y ∷ ys) h = omega arith

      module _ (x : A) (k : steps s (Some x) t) (m : ℕ) (e : m ≡ item_len x) where
        all_kept : fraction_of code (z.before.passed ++ x ∷ []) ≡ z.before.passed ++ x ∷ [] → IsKept item_len code steps xs (place + m) (place + m) t
        all_kept f = record {
          before = one_passed place s t z.before x k m e;
          kept_is = omega (arith, z.before.place_is, e, items_len-append item_len z.before.passed (x ∷ []), ap (items_len item_len) f);
        }

        pub kept_first : kept ≡ 0 → IsKept item_len code steps xs (place + m) (place + m) t
        kept_first h =
            let none = some_kept z.before.passed (sym z.kept_is ∙ h) in
            all_kept (ap (λ ys. fraction_of code (ys ++ x ∷ [])) none ∙ ap (λ ys. ys ++ x ∷ []) (sym none))

        pub kept_more : (code x ≡ 48 → ⊥) → IsKept item_len code steps xs (place + m) (place + m) t
        kept_more h = all_kept (fraction_more code z.before.passed x (no_zero (code x) h))

        pub kept_less : (kept ≡ 0 → ⊥) → code x ≡ 48 → IsKept item_len code steps xs (place + m) kept t
        kept_less h zero = record {
          before = one_passed place s t z.before x k m e;
          kept_is = z.kept_is ∙ ap (items_len item_len)
              (sym (fraction_zero code z.before.passed x (some_passed z.before.passed (λ none. h (z.kept_is ∙ none))) (is_zero (code x) zero)));
        }

module _ {I A : Type 0} (w : Model I A) (l : InputLaws w) (code : A → ℕ) (i : I) (n : ℕ) where
  pub integer_place : n ≡ items_len w.item_len (zeros_of code (w.elements i)) → IsBoundary w i n
  integer_place e = record {
    front = zeros_of code (w.elements i);
    rest = integer_of code (w.elements i);
    whole = integer_whole code (w.elements i);
    length_is = sym e;
  }

  pub integer_seen : (j : I) (t : Slice w) → n ≡ items_len w.item_len (zeros_of code (w.elements i)) → IsSuffixOf w i n j → IsModelledBy w t i →
      IsModelledBy w (integer_slice w code t) j
  integer_seen j t e r s =
      let cut = same_cut w.item_len l.positive r.front (w.elements j) (zeros_of code (w.elements i)) (integer_of code (w.elements i))
      (sym r.whole ∙ integer_whole code (w.elements i)) (r.length_is ∙ e) in
      record {
        known = r.known;
        elements_are = cut.1 ∙ ap (integer_of code) s.elements_are;
        mark_is = r.mark_is ∙ (ap (λ m. w.mark_after m r.front) s.mark_is ∙ ap (w.mark_after t.mark) (cut.0 ∙ ap (zeros_of code) s.elements_are));
      }

  pub fraction_place : n ≡ items_len w.item_len (fraction_of code (w.elements i)) → IsBoundary w i n
  fraction_place e = let whole =
      fraction_whole code (w.elements i) in record { front = fraction_of code (w.elements i); rest = whole.0; whole = whole.1; length_is = sym e }

  pub fraction_seen : (j : I) (t : Slice w) → n ≡ items_len w.item_len (fraction_of code (w.elements i)) → IsPrefixOf w i n j → IsModelledBy w t i →
      IsModelledBy w (fraction_slice w code t) j
  fraction_seen j t e f s =
      let whole = fraction_whole code (w.elements i) in
      let cut = same_cut w.item_len l.positive (w.elements j) f.rest (fraction_of code (w.elements i)) whole.0 (sym f.whole ∙ whole.1) (f.length_is ∙ e) in
      record { known = f.known; elements_are = cut.0 ∙ ap (fraction_of code) s.elements_are; mark_is = f.mark_is ∙ s.mark_is }
