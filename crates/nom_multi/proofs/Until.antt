-- Lemmas on the acceptances of lists until an end.
use Rattle.std.proofs.Common.{◌≡◌, Bool, ℕ, ◌+◌, ◌<◌, ◌⊎◌, Option, Some, None, List, [], ◌∷◌, zero, suc, refl, arith, ap, subst, sym, inl, inr}
use Rattle.nom_internal.specs.Prelude.{Errors, Model, Outcome, Accept, Refuse, Stop, Meaning, labelled, labelled_meaning, GoesOnRefused}
use Rattle.nom_repeat.specs.Repeat.{Turn, Pieces, Replies, TurnsBy}
use Rattle.nom_repeat.specs.Repeat.Turn.{Takes, Ends}
use Rattle.nom_repeat.proofs.AcceptedMore.{after_accepts}
use Rattle.nom_multi.specs.Promises.{TakesBefore, ItemsAndEnd, AcceptsUntil}
use Rattle.nom_multi.specs.Till.{end_or_item, till_turn, with_end, many_till_meaning}

-- what a place accepts: the end; or an item, where the end refuses
abbrev Stands : {I T V : Type 0} → (I → Outcome T → Type 0) → (I → Outcome V → Type 0) → I → ℕ → T ⊎ V → Type 0
Stands End Item j n (inl t) = End j (Accept n t)
Stands End Item j n (inr v) = End j Refuse × Item j (Accept n v)

module _ {I T V E : Type 0} (m : Meaning I V E) (end : Meaning I T E) (s : Bool) (j : I) (n : ℕ) where
  abbrev Last : Outcome T → Type 0
  Last a = end.answers s j a

  an_item : (u : T ⊎ V) → Last Refuse → (a : Outcome V) → m.answers s j a → Accept n u ≡ labelled inr a → Stands (end.answers s) (m.answers s) j n u
  an_item u r (Accept k v) h e =
      let tree : u ≡ inr v = cc (e) in
      let long : k ≡ n = cc (e) in
      subst (λ x. Stands (end.answers s) (m.answers s) j n x) (sym tree) (r, subst (λ c. m.answers s j (Accept c v)) long h)
  an_item u r Refuse h e = absurd (cc (e))
  an_item u r (Stop why) h e = absurd (cc (e))

  first_of : (u : T ⊎ V) → (a : Outcome T) → Last a → GoesOnRefused ((labelled_meaning inr m).answers s j) (labelled inl a) (Accept n u) →
      Stands (end.answers s) (m.answers s) j n u
  first_of u (Accept k t) h e =
      let tree : u ≡ inl t = cc (e) in
      let long : k ≡ n = cc (e) in
      subst (λ x. Stands (end.answers s) (m.answers s) j n x) (sym tree) (subst (λ c. end.answers s j (Accept c t)) long h)
  first_of u Refuse h z = an_item u h z.outcome (subst (λ x. m.answers s x z.outcome) (sym z.at_is) z.answered) z.fact
  first_of u (Stop why) h e = absurd (cc (e))

  stands : (u : T ⊎ V) → (end_or_item end m).answers s j (Accept n u) → Stands (end.answers s) (m.answers s) j n u
  stands u z =
      let f = z.answered in
      first_of u f.outcome (subst (λ x. end.answers s x f.outcome) (sym f.at_is) f.answered)
      (subst (λ o. GoesOnRefused ((labelled_meaning inr m).answers s j) o (Accept n u)) f.fact z.goes_on)

  is_stood : (u : T ⊎ V) → Stands (end.answers s) (m.answers s) j n u → (end_or_item end m).answers s j (Accept n u)
  is_stood (inl t) h = record {
    first = Accept n (inl t);
    answered = record { at = j; at_is = refl; outcome = Accept n t; answered = h; fact = refl };
    goes_on = refl;
  }
  is_stood (inr v) h = record {
    first = Refuse;
    answered = record { at = j; at_is = refl; outcome = Refuse; answered = h.0; fact = refl };
    goes_on =
        record { at = j; at_is = refl; outcome = Accept n v; answered = h.1; fact = refl };
  }

module _ {T V : Type 0} where
  taken_item : (r : Option (Outcome (T ⊎ V))) (n : ℕ) (v : V) → Takes n v ≡ till_turn r → (r ≡ Some (Accept n (inr v))) × (0 < n)
  taken_item (Some (Accept k (inl t))) n v e = absurd (cc (e))
  taken_item (Some (Accept zero (inr u))) n v e = absurd (cc (e))
  taken_item (Some (Accept (suc k) (inr u))) n v e =
      let long : n ≡ suc k = cc (e) in
      let tree : v ≡ u = cc (e) in
      (cc (long, tree), omega (arith, long))
  taken_item (Some Refuse) n v e = absurd (cc (e))
  taken_item (Some (Stop why)) n v e = absurd (cc (e))
  taken_item None n v e = absurd (cc (e))

  taken_end : (r : Option (Outcome (T ⊎ V))) (n : ℕ) (t : T) → Ends (Accept n t) ≡ till_turn r → r ≡ Some (Accept n (inl t))
  taken_end (Some (Accept k (inl u))) n t e =
      let long : n ≡ k = cc (e) in
      let tree : t ≡ u = cc (e) in
      cc (long, tree)
  taken_end (Some (Accept zero (inr u))) n t e = absurd (cc (e))
  taken_end (Some (Accept (suc k) (inr u))) n t e = absurd (cc (e))
  taken_end (Some Refuse) n t e = absurd (cc (e))
  taken_end (Some (Stop why)) n t e = absurd (cc (e))
  taken_end None n t e = absurd (cc (e))

  takes_item : (n : ℕ) (v : V) → 0 < n → ◌≡◌ {A = Turn V T} (Takes n v) (till_turn (Some (Accept n (inr v))))
  takes_item zero v h = absurd (omega (arith, h))
  takes_item (suc n) v h = refl

module _ {I A T V E : Type 0} (w : Model I A) (errs : Errors I E) (m : Meaning I V E) (end : Meaning I T E) (s : Bool) where
  abbrev Turns : ℕ → I → Turn V T → Type 0
  Turns = TurnsBy None (λ _ a. till_turn a) (λ _. (end_or_item end m).answers s)

  accepted_at : (k : ℕ) (j : I) (r : Option (Outcome (T ⊎ V))) (n : ℕ) (u : T ⊎ V) → r ≡ Some (Accept n u) →
      Replies None (λ _. (end_or_item end m).answers s) k j r → Stands (end.answers s) (m.answers s) j n u
  accepted_at k j r n u e p = stands m end s j n u ((subst (λ x. Replies None (λ _. (end_or_item end m).answers s) k j x) e p).1)

  forward : (n : ℕ) (t : T) (k : ℕ) (i : I) (vs : List V) (c : ℕ) → Pieces w Turns (λ h j. Turns h j (Ends (Accept n t))) k i vs c →
      Pieces w (TakesBefore (end.answers s) (m.answers s)) (λ _ j. end.answers s j (Accept n t)) k i vs c
  forward n t k i [] c p = (p.0, accepted_at k i (p.1).reply n (inl t) (taken_end (p.1).reply n t (p.1).fact) (p.1).replied)
  forward n t k i (v ∷ vs) c p =
      let z = taken_item (p.3).reply p.0 v (p.3).fact in
      let h = accepted_at k i (p.3).reply p.0 (inr v) z.0 (p.3).replied in
      (p.0, p.1, p.2, (h.0, h.1, z.1), p.4, forward n t (k + 1) p.2 vs p.1 p.5, p.6)

  backward : (n : ℕ) (t : T) (k : ℕ) (i : I) (vs : List V) (c : ℕ) →
      Pieces w (TakesBefore (end.answers s) (m.answers s)) (λ _ j. end.answers s j (Accept n t)) k i vs c →
      Pieces w Turns (λ h j. Turns h j (Ends (Accept n t))) k i vs c
  backward n t k i [] c p = (p.0, record { reply = Some (Accept n (inl t)); replied = (tt, is_stood m end s i n (inl t) p.1); fact = refl })
  backward n t k i (v ∷ vs) c p = (
    p.0,
    p.1,
    p.2,
    record {
      reply = Some (Accept p.0 (inr v));
      replied = (tt, is_stood m end s i p.0 (inr v) ((p.3).0, (p.3).1));
      fact =
          takes_item p.0 v (p.3).2;
    },
    p.4,
    backward n t (k + 1) p.2 vs p.1 p.5,
    p.6,
  )

  until_forward : (i : I) (n : ℕ) (vs : List V) (t : T) → (many_till_meaning w errs m end).answers s i (Accept n (vs, t)) →
      ItemsAndEnd w (end.answers s) (m.answers s) i n vs t
  until_forward i n vs t a =
      let e = after_accepts a.taken n (with_end a.trees) (vs, t) a.ending a.outcome_is in
      let p = forward e.0 e.1 0 i a.trees a.taken (subst (λ o. Pieces w Turns (λ h j. Turns h j (Ends o)) 0 i a.trees a.taken) e.2 a.pieces) in
      let items_are : a.trees ≡ vs = sym (ap (λ x. x.0) e.4) in
      let end_is : e.1 ≡ t = sym (ap (λ x. x.1) e.4) in
      record {
        taken = a.taken;
        end_length = e.0;
        items = subst (λ us. Pieces w (TakesBefore (end.answers s) (m.answers s)) (λ _ j. end.answers s j (Accept e.0 t)) 0 i us a.taken) items_are
            (subst (λ x. Pieces w (TakesBefore (end.answers s) (m.answers s)) (λ _ j. end.answers s j (Accept e.0 x)) 0 i a.trees a.taken) end_is p);
        length_is = e.3;
      }

  until_backward : (i : I) (n : ℕ) (vs : List V) (t : T) → ItemsAndEnd w (end.answers s) (m.answers s) i n vs t →
      (many_till_meaning w errs m end).answers s i (Accept n (vs, t))
  until_backward i n vs t h = record {
    trees = vs;
    taken = h.taken;
    ending = Accept h.end_length t;
    pieces =
        backward h.end_length t 0 i vs h.taken h.items;
    outcome_is = ap (λ c. Accept c (vs, t)) h.length_is;
  }

pub many_till_accepts_until : {I A T V E : Type 0} (w : Model I A) (errs : Errors I E) (m : Meaning I V E) (end : Meaning I T E) →
    AcceptsUntil w m end (many_till_meaning w errs m end)
many_till_accepts_until w errs m end s i n vs t = (until_forward w errs m end s i n vs t, until_backward w errs m end s i n vs t)
