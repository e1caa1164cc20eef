-- The items of an input, one by one, each with its place, and how many were passed.
use Rattle.std.proofs.Common.{◌≡◌, ℕ, ◌+◌, ◌≤◌, Bool, true, false, Option, Some, None, List, [], ◌∷◌, ◌++◌, length, sym, ◌∙◌, ap, subst, refl, arith}
use Rattle.std.proofs.Common.{append_assoc, append-nil, length-append, ◌⊎◌, inl, inr}
use Rattle.std.specs.Iterator.{AlwaysYields}
use Rattle.std.specs.List.{All}
use Rattle.std.proofs.lemmas.List.Elements.{All-nil, All-cons, All-append}
use Rattle.nom_internal.specs.Prelude.{Model, items_len, placed, items_len-append, Slice}
use Rattle.nom_bytes.specs.ParsedRuns.{IsRunSlice}

-- why a count stops
pub stop_of : {Full Open Stopped Ends : Type 0} → Full ⊎ (Open × Stopped) → (Stopped → Ends) → Full ⊎ Ends
stop_of (inl h) f = inl h
stop_of (inr h) f = inr (f h.1)

module _ {I A S : Type 0} (w : Model I A) (Test : A → Bool → Type 0) (steps : S → Option (ℕ × A) → S → Type 0) where
  -- the items that were passed, that many, all meet the test, and s gives the others
  pub record IsCounting (i : I) (count : ℕ) (s : S) : Type 0 where
    pub passed : List A
    pub rest : List A
    pub whole : w.elements i ≡ passed ++ rest
    pub meets : All (λ x. Test x true) passed
    pub counted : length passed ≡ count
    pub gives : AlwaysYields steps (λ p. p) s (placed w.item_len (items_len w.item_len passed) rest)

  pub count_begins : (i : I) (s : S) → AlwaysYields steps (λ p. p) s (placed w.item_len 0 (w.elements i)) → IsCounting i 0 s
  count_begins i s h = record { passed = []; rest = w.elements i; whole = refl; meets = All-nil (λ x. Test x true); counted = refl; gives = h }

  -- the next item, with its place
  record IsNext (i : I) (count n : ℕ) (x : A) (t : S) : Type 0 where
    passed : List A
    rest : List A
    whole : w.elements i ≡ passed ++ (x ∷ rest)
    meets : All (λ z. Test z true) passed
    counted : length passed ≡ count
    place : n ≡ items_len w.item_len passed
    gives : AlwaysYields steps (λ p. p) t (placed w.item_len (n + w.item_len x) rest)

  next_of : (i : I) (s t : S) (count n : ℕ) (x : A) (passed rest : List A) → w.elements i ≡ passed ++ rest → All (λ z. Test z true) passed →
      length passed ≡ count → AlwaysYields steps (λ p. p) s (placed w.item_len (items_len w.item_len passed) rest) → steps s (Some (n, x)) t →
      IsNext i count n x t
  next_of i s t count n x passed [] e h c g k = absurd (g (n, x) t k)
  next_of i s t count n x passed (y ∷ rest) e h c g k =
      let r = g.1 (n, x) t k in
      let place : n ≡ items_len w.item_len passed = ap (λ p. p.0) r.0 in
      let item : x ≡ y = ap (λ p. p.1) r.0 in
      let gives : AlwaysYields steps (λ p. p) t (placed w.item_len (n + w.item_len y) rest) =
      subst (λ m. AlwaysYields steps (λ p. p) t (placed w.item_len (m + w.item_len y) rest)) (sym place) r.1 in
      record {
        passed = passed;
        rest = rest;
        whole = e ∙ ap (λ z. passed ++ (z ∷ rest)) (sym item);
        meets = h;
        counted = c;
        place = place;
        gives = subst (λ z. AlwaysYields steps (λ p. p) t (placed w.item_len (n + w.item_len z) rest)) (sym item) gives;
      }

  next_in : (i : I) (s t : S) (count n : ℕ) (x : A) → IsCounting i count s → steps s (Some (n, x)) t → IsNext i count n x t
  next_in i s t count n x h k = next_of i s t count n x h.passed h.rest h.whole h.meets h.counted h.gives k

  pub count_goes_on : (i : I) (s t : S) (count n : ℕ) (x : A) → IsCounting i count s → steps s (Some (n, x)) t → Test x true → IsCounting i (count + 1) t
  count_goes_on i s t count n x h k m =
      let r = next_in i s t count n x h k in
      let place : n + w.item_len x ≡ items_len w.item_len (r.passed ++ (x ∷ [])) = omega (arith, r.place, items_len-append w.item_len r.passed (x ∷ [])) in
      record {
        passed = r.passed ++ (x ∷ []);
        rest = r.rest;
        whole = r.whole ∙ sym (append_assoc r.passed (x ∷ []) r.rest);
        meets = All-append (λ z. Test z true) r.passed (x ∷ []) r.meets (All-cons (λ z. Test z true) x [] m (All-nil (λ z. Test z true)));
        counted = omega (arith, r.counted, length-append r.passed (x ∷ []));
        gives = subst (λ m. AlwaysYields steps (λ p. p) t (placed w.item_len m r.rest)) place r.gives;
      }

  pub count_stops : (i : I) (s t : S) (most count n : ℕ) (x : A) → IsCounting i count s → steps s (Some (n, x)) t → count ≤ most → (count ≡ most) ⊎
      Test x false → (b : Slice w) × IsRunSlice w Test (Some most) true i n b × (length b.items ≡ count)
  count_stops i s t most count n x h k b e =
      let r = next_in i s t count n x h k in
      let same : count ≡ length r.passed = sym r.counted in (
        record { items = r.passed; mark = w.mark i },
        record {
          first = record { rest = x ∷ r.rest; whole = r.whole; length_is = sym r.place; mark_is = refl };
          meets = r.meets;
          stops = subst (λ c. (c ≡ most) ⊎ Test x false) same e;
          bounded = omega (arith, r.counted, b);
          followed = λ _. omega arith;
        },
        r.counted,
      )

  ends_of : (i : I) (s t : S) (n : ℕ) (passed rest : List A) → w.elements i ≡ passed ++ rest → AlwaysYields steps (λ p. p) s (placed w.item_len n rest) →
      steps s None t → w.elements i ≡ passed
  ends_of i s t n passed [] e g k = e ∙ append-nil passed
  ends_of i s t n passed (y ∷ rest) e g k = absurd (g.0 t k)

  pub count_ends : (i : I) (s t : S) (most count : ℕ) → IsCounting i count s → steps s None t → count ≤ most → All (λ x. Test x true) (w.elements i) ×
      (length (w.elements i) ≡ count) × (count ≤ most)
  count_ends i s t most count h k b =
      let all : w.elements i ≡ h.passed = ends_of i s t (items_len w.item_len h.passed) h.passed h.rest h.whole h.gives k in
      (subst (All (λ x. Test x true)) (sym all) h.meets, ap length all ∙ h.counted, b)
