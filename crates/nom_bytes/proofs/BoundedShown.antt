-- Lemmas on the answers of a run with a bound.
use Rattle.std.proofs.Common.{◌≡◌, ℕ, ◌-◌, ◌<◌, ◌≤◌, min, max, ◌⊎◌, Option, Some, None, MatchOption}
use Rattle.std.proofs.Common.{Bool, true, false, not, is_some, [], length, refl, sym, ◌∙◌, ap, subst}
use Rattle.std.proofs.Common.{arith, append-nil, inl, inr}
use Rattle.std.proofs.lemmas.Bool.{cases_lt}
use Rattle.nom_internal.specs.Prelude.{Model, input_len, Slice, LeafAnswers, Outcome, Accept, Refuse, Stop, Needs}
use Rattle.nom_bytes.specs.ParsedRuns.{IsEnough, IsRunSlice, runs, Reaches}
use Rattle.nom_bytes.specs.laws.RunLaws.{run_closed}

closed : {P : Type 0} → false ≡ true → P
closed k = absurd (cc (k))

module _ {I A : Type 0} (w : Model I A) (Test : A → Bool → Type 0) (most : ℕ) where
  -- the run is all of the input
  abbrev all_run : (i : I) (n count : ℕ) → n ≡ input_len w i → Reaches w Test most i None count →
      IsRunSlice w Test (Some most) false i n (record { items = w.elements i; mark = w.mark i })
  all_run i n count e h = record {
    first = record { rest = []; whole = sym (append-nil (w.elements i)); length_is = sym e; mark_is = refl };
    meets = h.0;
    bounded = omega (arith, h.1, h.2);
    stops = tt;
    followed = closed;
  }

by_order : (least most count : ℕ) → min least most ≤ count → count ≤ most → (count < least) ⊎ (least ≤ count) → (least ≤ count) ⊎ (count ≡ most)
by_order least most count h b (inl k) = inr (omega (arith, h, b, k))
by_order least most count h b (inr k) = inl k

-- as many as the less of two numbers: as many as one of them
one_reached : (least most count : ℕ) → min least most ≤ count → count ≤ most → (least ≤ count) ⊎ (count ≡ most)
one_reached least most count h b = by_order least most count h b (cases_lt count least)

-- a run that an item follows, with fewer than either number, isn't enough
none_enough : (least most count after : ℕ) → count < min least most → IsEnough least (Some most) count after → ⊥
none_enough least most count after h (inl k) = omega (arith, h, k)
none_enough least most count after h (inr k) = omega (arith, h, k.0)

-- all of an input, with fewer than the least number, isn't enough
all_few : (least most count : ℕ) → count < least → IsEnough least (Some most) count 0 → ⊥
all_few least most count h (inl k) = omega (arith, h, k)
all_few least most count h (inr k) = omega (arith, k.1)

module _ {I A : Type 0} (w : Model I A) (Test : A → Bool → Type 0) (most least : ℕ) where
  abbrev Answers : Bool → I → Outcome (Slice w) → Type 0
  Answers = LeafAnswers (runs w Test (Some most) least)

  abbrev all_items : I → Slice w
  all_items i = record { items = w.elements i; mark = w.mark i }

  with_item : (s : Bool) (i : I) (n count : ℕ) (t : Slice w) → IsRunSlice w Test (Some most) true i n t → length t.items ≡ count → (least ≤ count) ⊎
      (count ≡ most) → Answers s i (Accept n t)
  with_item s i n count t r e (inl h) = (run_closed w Test (Some most) s i n t r, inl (omega (arith, e, h)))
  with_item s i n count t r e (inr h) = (run_closed w Test (Some most) s i n t r, inr (e ∙ h, r.followed refl))

  pub item_follows : (s : Bool) (i : I) (o : Option ℕ) (n count : ℕ) → o ≡ Some n → Reaches w Test most i o count → min least most ≤ count →
      (t : Slice w) × Answers s i (Accept n t)
  item_follows s i o n count q a h =
      let r = subst (λ z. Reaches w Test most i z count) q a in
      let bounded : count ≤ most = omega (arith, r.1.bounded, r.2) in
      (r.0, with_item s i n count r.0 r.1 r.2 (one_reached least most count h bounded))

  pub falls_short : (s : Bool) (i : I) (o : Option ℕ) (n count : ℕ) → o ≡ Some n → Reaches w Test most i o count → count < min least most → Answers s i Refuse
  falls_short s i o n count q a h =
      let r = subst (λ z. Reaches w Test most i z count) q a in
      (n, r.0, run_closed w Test (Some most) s i n r.0 r.1, none_enough least most (length r.0.items) (length r.1.first.rest) (omega (arith, r.2, h)))

  pub all_enough : (s : Bool) (i : I) (o : Option ℕ) (n count : ℕ) → s ≡ false → o ≡ None → n ≡ input_len w i → Reaches w Test most i o count →
      least ≤ count → (t : Slice w) × Answers s i (Accept n t)
  all_enough s i o n count e q f a k =
      let h = subst (λ z. Reaches w Test most i z count) q a in
      (all_items i, subst (λ b. Answers b i (Accept n (all_items i))) (sym e) (all_run w Test most i n count f h, inl (omega (arith, h.1, k))))

  pub all_short : (s : Bool) (i : I) (o : Option ℕ) (count : ℕ) → s ≡ false → o ≡ None → Reaches w Test most i o count → count < least → Answers s i Refuse
  all_short s i o count e q a k =
      let h = subst (λ z. Reaches w Test most i z count) q a in
      subst (λ b. Answers b i Refuse) (sym e)
      (input_len w i, all_items i, all_run w Test most i (input_len w i) count refl h, all_few least most (length (w.elements i)) (omega (arith, h.1, k)))

  pub more_needed : (s : Bool) (i : I) (o : Option ℕ) (count n size : ℕ) → s ≡ true → o ≡ None → n ≡ input_len w i → size ≡ max 1 (least - n) →
      Reaches w Test most i o count → Answers s i (Stop (Needs (Some size)))
  more_needed s i o count n size e q f g a =
      let h = subst (λ z. Reaches w Test most i z count) q a in
      (e, (h.0, omega (arith, h.1, h.2), ap Some (g ∙ ap (λ m. max 1 (least - m)) f)))

  -- at the run's end: `p` has its length and how many items are enough
  pub ended_enough : (s : Bool) (i : I) (o : Option ℕ) (count whole fewer : ℕ) (p : ℕ × ℕ) → (o ≡ None → s ≡ false) → whole ≡ input_len w i →
      fewer ≡ min least most → MatchOption o (p ≡ (whole, least)) (λ n. p ≡ (n, fewer)) → Reaches w Test most i o count → p.1 ≤ count →
      (t : Slice w) × Answers s i (Accept p.0 t)
  ended_enough s i None count whole fewer p over f g h a k =
      subst (λ q. (t : Slice w) × Answers s i (Accept q.0 t)) (sym h) (all_enough s i None whole count (over refl) refl f a (subst (λ q. q.1 ≤ count) h k))
  ended_enough s i (Some n) count whole fewer p over f g h a k =
      let enough : min least most ≤ count = subst (λ z. z ≤ count) g (subst (λ q. q.1 ≤ count) h k) in
      subst (λ q. (t : Slice w) × Answers s i (Accept q.0 t)) (sym h) (item_follows s i (Some n) n count refl a enough)

  pub ended_few : (s : Bool) (i : I) (o : Option ℕ) (count whole fewer : ℕ) (p : ℕ × ℕ) → (o ≡ None → s ≡ false) →
      fewer ≡ min least most → MatchOption o (p ≡ (whole, least)) (λ n. p ≡ (n, fewer)) → Reaches w Test most i o count → count < p.1 →
      Answers s i Refuse
  ended_few s i None count whole fewer p over g h a k = all_short s i None count (over refl) refl a (subst (λ q. count < q.1) h k)
  ended_few s i (Some n) count whole fewer p over g h a k =
      let few : count < min least most = subst (λ z. count < z) g (subst (λ q. count < q.1) h k) in
      falls_short s i (Some n) n count refl a few

pub is_none : (o : Option ℕ) (b : Bool) → is_some o ≡ not b → b ≡ true → o ≡ None
is_none None b e t = refl
is_none (Some n) b e t = absurd (cc (e, t))

pub isnt_none : {P : Type 0} (o : Option ℕ) (b : Bool) → is_some o ≡ not b → b ≡ false → o ≡ None → P
isnt_none None true e f q = absurd (cc (f))
isnt_none None false e f q = absurd (cc (e))
isnt_none (Some n) b e f q = absurd (cc (q))
