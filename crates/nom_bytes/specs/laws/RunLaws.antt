-- The laws of parsed runs.
use Rattle.std.specs.Prelude.{◌≡◌, ℕ, ◌-◌, ◌<◌, ◌≤◌, max, Bool, true, false, ◌⊎◌, List, [], ◌∷◌, ◌++◌, length, Option, Some, None, refl}
use Rattle.std.specs.List.{All}
use Rattle.std.proofs.Common.{arith, sym, ◌∙◌, ap, subst, append_assoc, append-nil, length-append, inl, inr}
use Rattle.std.proofs.lemmas.List.Elements.{All-head, All-tail}
use Rattle.nom_internal.specs.Prelude.{Model, Related, AreValues, items_len, Stops, Slice, first_place, same_count, IsLawful, IsSteady, LeafLaws, leaf_meaning}
use Rattle.nom_internal.specs.Prelude.{leaf_lawful, leaf_steady}
use Rattle.nom_bytes.specs.Predicates.{IsFixed}
use Rattle.nom_bytes.specs.ParsedRuns.{IsWithinBound, IsAtBound, IsEnough, IsRunSlice, runs}

full_most : (bound : Option ℕ) (a b : ℕ) → IsAtBound bound a → IsWithinBound bound b → b ≤ a
full_most (Some most) a b f h = omega (arith, f, h)
full_most None a b f h = absurd f

stops_longer : {A : Type 0} (Ends : A → Type 0) (rest more : List A) → 0 < length rest → Stops Ends rest → Stops Ends (rest ++ more)
stops_longer Ends [] more h s = absurd (omega (arith, h))
stops_longer Ends (x ∷ rest) more h s = s

module _ (least : ℕ) (bound : Option ℕ) where
  -- whether items are enough depends on whether one is after them
  enough_with : (count a b : ℕ) → (0 < a → 0 < b) → IsEnough least bound count a → IsEnough least bound count b
  enough_with count a b f (inl h) = inl h
  enough_with count a b f (inr h) = inr (h.0, f h.1)

  enough_same : (c a d b : ℕ) → c ≡ d → a ≡ b → IsEnough least bound c a → IsEnough least bound d b
  enough_same c a d b e f h = subst (λ m. IsEnough least bound m b) e (subst (λ m. IsEnough least bound c m) f h)

module _ {A : Type 0} (IsValue : A → Type 0) (Test : A → Bool → Type 0) (fixed : IsFixed IsValue Test) where
  -- no front whose items all meet the test goes past an item that doesn't
  front_within : (front others run rest : List A) → AreValues IsValue (front ++ others) → front ++ others ≡ run ++ rest → All (λ x. Test x true) front →
      0 < length rest → Stops (λ x. Test x false) rest → length front ≤ length run
  front_within [] others run rest a e h b s = omega arith
  front_within (x ∷ front) others [] [] a e h b s = absurd (omega (arith, b))
  front_within (x ∷ front) others [] (y ∷ rest) a e h b s =
      let heads : x ≡ y = cc (e) in
      absurd (fixed y (subst IsValue heads a.0) (subst (λ z. Test z true) heads (All-head (λ z. Test z true) x front h)) s)
  front_within (x ∷ front) others (y ∷ run) rest a e h b s =
      let tails : front ++ others ≡ run ++ rest = cc (e) in
      omega (arith, front_within front others run rest a.1 tails (All-tail (λ z. Test z true) x front h) b s)

  module _ (bound : Option ℕ) where
    -- no front within the bound whose items all meet the test is longer than the run
    no_longer : (xs front others run rest : List A) → AreValues IsValue xs → xs ≡ front ++ others → All (λ x. Test x true) front →
        IsWithinBound bound (length front) → xs ≡ run ++ rest → Stops (λ x. IsAtBound bound (length run) ⊎ Test x false) rest → length front ≤ length run
    no_longer xs front others run [] a e h b f s = omega (arith, ap length e, ap length f, length-append front others, length-append run [])
    no_longer xs front others run (x ∷ rest) a e h b f (inl s) = full_most bound (length run) (length front) s b
    no_longer xs front others run (x ∷ rest) a e h b f (inr s) =
        front_within front others run (x ∷ rest) (subst (AreValues IsValue) e a) (sym e ∙ f) h (omega arith) s

module _ {I A : Type 0} (w : Model I A) (Test : A → Bool → Type 0) (bound : Option ℕ) where
  -- a run of the first of related inputs, as one of the second
  record IsCarried (s : Bool) (y : I) (n : ℕ) (t : Slice w) (after : ℕ) : Type 0 where
    is_run : IsRunSlice w Test bound s y n t
    longer_after : 0 < after → 0 < length is_run.first.rest
    after_longer : 0 < length is_run.first.rest → 0 < after

  carried : (longer s : Bool) → (longer ≡ true → s ≡ true) → (x y : I) (n : ℕ) (t : Slice w) → Related w longer x y →
      (r : IsRunSlice w Test bound s x n t) → IsCarried s y n t (length r.first.rest)
  carried true s only x y n t e r =
      let followed : 0 < length r.first.rest = r.followed (only refl) in
      let after : 0 < length (r.first.rest ++ e.more) = omega (arith, followed, length-append r.first.rest e.more) in
      record {
        is_run = record {
          first = record {
            rest = r.first.rest ++ e.more;
            whole = e.whole ∙ (ap (λ xs. xs ++ e.more) r.first.whole ∙ append_assoc t.items r.first.rest e.more);
            length_is = r.first.length_is;
            mark_is = r.first.mark_is ∙ sym e.mark_is;
          };
          meets = r.meets;
          bounded = r.bounded;
          stops = stops_longer (λ z. IsAtBound bound (length t.items) ⊎ Test z false) r.first.rest e.more followed r.stops;
          followed = λ _. after;
        };
        longer_after = λ _. after;
        after_longer = λ _. followed;
      }
  carried false s only x y n t e r = record {
    is_run = record {
      first = record {
        rest = r.first.rest;
        whole = sym e.elements_are ∙ r.first.whole;
        length_is = r.first.length_is;
        mark_is = r.first.mark_is ∙ e.mark_is;
      };
      meets = r.meets;
      bounded = r.bounded;
      stops = r.stops;
      followed = r.followed;
    };
    longer_after = λ h. h;
    after_longer = λ h. h;
  }

  -- a run that an item follows is one in either mode
  abbrev pub run_closed : (s : Bool) (i : I) (n : ℕ) (t : Slice w) → IsRunSlice w Test bound true i n t → IsRunSlice w Test bound s i n t
  run_closed s i n t r = record { first = r.first; meets = r.meets; bounded = r.bounded; stops = r.stops; followed = λ _. r.followed refl }

module _ {I A : Type 0} (w : Model I A) (IsValue : A → Type 0) (values : (i : I) → w.IsKnown i → AreValues IsValue (w.elements i))
    (Test : A → Bool → Type 0) (fixed : IsFixed IsValue Test) (bound : Option ℕ) where
  one_run : (s : Bool) (i : I) (n m : ℕ) (t u : Slice w) → w.IsKnown i → IsRunSlice w Test bound s i n t → IsRunSlice w Test bound s i m u → (n ≡ m) × (t ≡ u)
  one_run s i n m t u h r q =
      let up = no_longer IsValue Test fixed bound (w.elements i) t.items r.first.rest u.items q.first.rest (values i h) r.first.whole r.meets r.bounded
      q.first.whole q.stops in
      let down = no_longer IsValue Test fixed bound (w.elements i) u.items q.first.rest t.items r.first.rest (values i h) q.first.whole q.meets
      q.bounded r.first.whole r.stops in
      same_count w i n m t u r.first q.first (omega (arith, up, down))

  -- no item follows the run where all items are the run
  none_follows : (i : I) (n : ℕ) (t : Slice w) → w.IsKnown i → IsRunSlice w Test bound true i n t → All (λ x. Test x true) (w.elements i) →
      IsWithinBound bound (length (w.elements i)) → ⊥
  none_follows i n t h r all b =
      let up = no_longer IsValue Test fixed bound (w.elements i) (w.elements i) [] t.items r.first.rest (values i h)
      (sym (append-nil (w.elements i))) all b r.first.whole r.stops in
      omega (arith, up, r.followed refl, ap length r.first.whole, length-append t.items r.first.rest)

  module _ (least : ℕ) where
    one_enough : (s : Bool) (i : I) (n m : ℕ) (t u : Slice w) → w.IsKnown i → (r : IsRunSlice w Test bound s i n t) →
        (q : IsRunSlice w Test bound s i m u) → IsEnough least bound (length t.items) (length r.first.rest) →
        IsEnough least bound (length u.items) (length q.first.rest)
    one_enough s i n m t u h r q =
        let counts : length t.items ≡ length u.items = ap (λ z. length z.items) (one_run s i n m t u h r q).1 in
        enough_same least bound (length t.items) (length r.first.rest) (length u.items)
        (length q.first.rest) counts (omega (
          arith,
          counts,
          ap length r.first.whole,
          ap length q.first.whole,
          length-append t.items r.first.rest,
          length-append u.items q.first.rest,
        ))

    accepted_stays : (longer s : Bool) → (longer ≡ true → s ≡ true) → (x y : I) (n : ℕ) (t : Slice w) → Related w longer x y →
        (runs w Test bound least).Accepts s x n t → (runs w Test bound least).Accepts s y n t
    accepted_stays longer s only x y n t e a =
        let c = carried w Test bound longer s only x y n t e a.0 in
        (c.is_run, enough_with least bound (length t.items) (length a.0.first.rest) (length c.is_run.first.rest) c.longer_after a.1)

    refused_stays : (longer s : Bool) → (longer ≡ true → s ≡ true) → (x y : I) → Related w longer x y → (runs w Test bound least).Refuses s x →
        (runs w Test bound least).Refuses s y
    refused_stays longer s only x y e a =
        let c = carried w Test bound longer s only x y a.0 a.1 e a.2 in
        (a.0, a.1, c.is_run, λ h. a.3 (enough_with least bound (length a.1.items) (length c.is_run.first.rest) (length a.2.first.rest) c.after_longer h))

    pub run_laws : LeafLaws w (runs w Test bound least)
    run_laws = record {
      place = λ s i n t h a. first_place w i n t a.0.first;
      one_accepted = λ s i n m t u h a b. one_run s i n m t u h a.0 b.0;
      one_lack = λ i j k h a b. a.2 ∙ sym b.2;
      accepted_refused = λ s i n t h a b. b.3 (one_enough s i n b.0 t b.1 h a.0 b.2 a.1);
      accepted_lacks = λ i n t k h a b. none_follows i n t h a.0 b.0 b.1;
      refused_lacks = λ i k h a b. none_follows i a.0 a.1 h a.2 b.0 b.1;
      accepted_stays = λ longer s only x y n t kx ky e a. accepted_stays longer s only x y n t e a;
      refused_stays = λ longer s only x y kx ky e a. refused_stays longer s only x y e a;
      lack_consistent = λ x y k kx ky e a. subst (λ xs. All (λ z. Test z true) xs × IsWithinBound bound (length xs) ×
          (k ≡ Some (max 1 (least - items_len w.item_len xs)))) e.elements_are a;
      accepted_settles = λ i n t h a. (run_closed w Test bound false i n t a.0, a.1);
      refused_settles = λ i h a. (a.0, a.1, run_closed w Test bound false i a.0 a.1 a.2, a.3);
    }

    module _ {E : Type 0} (Blames : I → E → Type 0) (Grows : Type 0) where
      pub run_lawful : IsLawful w (leaf_meaning Blames Grows (runs w Test bound least))
      run_lawful = leaf_lawful run_laws

      pub run_steady : IsSteady w (leaf_meaning Blames Grows (runs w Test bound least))
      run_steady = leaf_steady run_laws
