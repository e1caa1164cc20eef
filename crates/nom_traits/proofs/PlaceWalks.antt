-- The items of inputs, one by one, each with its place, until one ends a run.
use Rattle.std.proofs.Common.{◌≡◌, ℕ, ◌+◌, ◌++◌, Option, Some, None, List, [], ◌∷◌, sym, ◌∙◌, ap, subst, refl, arith, append_assoc, append-nil}
use Rattle.std.specs.Iterator.{AlwaysYields}
use Rattle.std.specs.List.{All}
use Rattle.std.proofs.lemmas.List.Elements.{All-nil, All-cons, All-append}
use Rattle.nom_traits.specs.Input.{Model, items_len, placed}
use Rattle.nom_traits.specs.Rests.{items_len-append}
use Rattle.nom_traits.specs.Runs.{IsPosition}

module _ {I A S : Type 0} (w : Model I A) (Meets Ends : A → Type 0) (steps : S → Option (ℕ × A) → S → Type 0) where
  -- the items that were passed all meet the test, and s gives the others, each with its place
  pub record IsPassing (i : I) (s : S) : Type 0 where
    pub passed : List A
    pub rest : List A
    pub whole : w.elements i ≡ passed ++ rest
    pub meets : All Meets passed
    pub gives : AlwaysYields steps (λ p. p) s (placed w.item_len (items_len w.item_len passed) rest)

  -- the next item, with its place
  record IsNext (i : I) (n : ℕ) (x : A) (t : S) : Type 0 where
    passed : List A
    rest : List A
    whole : w.elements i ≡ passed ++ (x ∷ rest)
    meets : All Meets passed
    place : n ≡ items_len w.item_len passed
    gives : AlwaysYields steps (λ p. p) t (placed w.item_len (items_len w.item_len passed + w.item_len x) rest)

  next_of : (i : I) (s t : S) (n : ℕ) (x : A) (passed rest : List A) → w.elements i ≡ passed ++ rest → All Meets passed →
      AlwaysYields steps (λ p. p) s (placed w.item_len (items_len w.item_len passed) rest) → steps s (Some (n, x)) t → IsNext i n x t
  next_of i s t n x passed [] e h g k = absurd (g (n, x) t k)
  next_of i s t n x passed (y ∷ rest) e h g k =
      let r = g.1 (n, x) t k in
      let item : x ≡ y = ap (λ p. p.1) r.0 in
      record {
        passed = passed;
        rest = rest;
        whole = e ∙ ap (λ z. passed ++ (z ∷ rest)) (sym item);
        meets = h;
        place = ap (λ p. p.0) r.0;
        gives = subst (λ z. AlwaysYields steps (λ p. p) t (placed w.item_len (items_len w.item_len passed + w.item_len z) rest)) (sym item) r.1;
      }

  next_in : (i : I) (s t : S) (n : ℕ) (x : A) → IsPassing i s → steps s (Some (n, x)) t → IsNext i n x t
  next_in i s t n x h k = next_of i s t n x h.passed h.rest h.whole h.meets h.gives k

  ends_of : (i : I) (s t : S) (passed rest : List A) → w.elements i ≡ passed ++ rest → All Meets passed →
      AlwaysYields steps (λ p. p) s (placed w.item_len (items_len w.item_len passed) rest) → steps s None t → All Meets (w.elements i)
  ends_of i s t passed [] e h g k = subst (All Meets) (sym (e ∙ append-nil passed)) h
  ends_of i s t passed (y ∷ rest) e h g k = absurd (g.0 t k)

module _ {I A S : Type 0} {w : Model I A} {Meets Ends : A → Type 0} {steps : S → Option (ℕ × A) → S → Type 0} where
  pub passing_begins : {i : I} {s : S} → AlwaysYields steps (λ p. p) s (placed w.item_len 0 (w.elements i)) → IsPassing w Meets Ends steps i s
  passing_begins {i = i} h = record { passed = []; rest = w.elements i; whole = refl; meets = All-nil Meets; gives = h }

  pub passing_goes_on : {i : I} {s : S} (t : S) {n : ℕ} (x : A) → IsPassing w Meets Ends steps i s → steps s (Some (n, x)) t → Meets x →
      IsPassing w Meets Ends steps i t
  passing_goes_on {i = i} {s = s} t {n = n} x h k meets =
      let r = next_in w Meets Ends steps i s t n x h k in
      let place : items_len w.item_len r.passed + w.item_len x ≡ items_len w.item_len (r.passed ++ (x ∷ [])) =
      omega (arith, items_len-append w.item_len r.passed (x ∷ [])) in
      record {
        passed = r.passed ++ (x ∷ []);
        rest = r.rest;
        whole = r.whole ∙ sym (append_assoc r.passed (x ∷ []) r.rest);
        meets = All-append Meets r.passed (x ∷ []) r.meets (All-cons Meets x [] meets (All-nil Meets));
        gives = subst (λ m. AlwaysYields steps (λ p. p) t (placed w.item_len m r.rest)) place r.gives;
      }

  pub passing_stops : {i : I} {s : S} (t : S) {n : ℕ} (x : A) → IsPassing w Meets Ends steps i s → steps s (Some (n, x)) t → Ends x →
      IsPosition w Meets Ends i (Some n)
  passing_stops {i = i} {s = s} t {n = n} x h k m =
      let r = next_in w Meets Ends steps i s t n x h k in
      record {
        run = r.passed;
        item = x;
        rest = r.rest;
        is_run = record { whole = r.whole; meets = r.meets; stops = m };
        length_is = sym r.place;
      }

  pub passing_ends : {i : I} {s : S} (t : S) → IsPassing w Meets Ends steps i s → steps s None t → IsPosition w Meets Ends i None
  passing_ends {i = i} {s = s} t h k = ends_of w Meets Ends steps i s t h.passed h.rest h.whole h.meets h.gives k
