-- Lemmas on the acceptances of items within limits.
use Rattle.std.specs.Prelude.{ltb}
use Rattle.std.proofs.lemmas.Bool.{le-ltb, ltb-false}
use Rattle.std.proofs.Common.{◌≡◌, Bool, true, false, ℕ, ◌+◌, ◌<◌, ◌≤◌, ◌⊎◌, Option, Some, None, List, [], ◌∷◌, zero, suc, refl, arith, ap, subst}
use Rattle.std.proofs.Common.{sym, inl, inr}
use Rattle.nom_internal.specs.Prelude.{Errors, ErrorKind, Model, Outcome, Accept, Refuse, Stop, Meaning, after}
use Rattle.nom_repeat.specs.Repeat.{Pieces, Replies, TurnsBy}
use Rattle.nom_repeat.specs.Repeat.Turn.{Takes, Ends}
use Rattle.nom_repeat.specs.Items.{refused_turn, item_turn, items_meaning}
use Rattle.nom_repeat.specs.laws.ItemsLaws.{empty_never_ends}
use Rattle.nom_repeat.specs.Accepted.{MayTake, TakesItem, EndsItems, InTurn, AcceptsItems}
use Rattle.nom_repeat.specs.declared.items.Limits.{Limits}
use Rattle.nom_repeat.proofs.Few.{taken_accepted, taken_consumes, accepted_tree}
use Rattle.nom_repeat.proofs.ItemsShown.{taken_turn}

-- what an acceptance ends by
pub ending_accepts : {T R : Type 0} (n m : ℕ) (t v : R) (o : Outcome T) → Accept n v ≡ after m (λ _. t) o → (d : ℕ) × (u : T) × (o ≡ Accept d u) × (n ≡ m + d)
ending_accepts n m t v (Accept d u) e = (d, u, refl, cc (e))
ending_accepts n m t v Refuse e = absurd (cc (e))
ending_accepts n m t v (Stop why) e = absurd (cc (e))

refused_ends : {V : Type 0} (few : Bool) (k least d : ℕ) (t : Unit {0}) → ltb k least ≡ few → Ends (Accept d t) ≡ refused_turn {V = V} few → (d ≡ 0) ×
    (least ≤ k)
refused_ends true k least d t f e = absurd (cc (e))
refused_ends false k least d t f e = (cc (e), ltb-false k least f)

module _ {I V : Type 0} (b : Limits) (Item : I → Outcome V → Type 0) where
  -- how items end with success
  ends_items : (k : ℕ) (i : I) (a : Option (Outcome V)) → Replies b.most (λ _. Item) k i a → (d : ℕ) (t : Unit {0}) →
      Ends (Accept d t) ≡ item_turn b k a → (d ≡ 0) × EndsItems Item b.least b.most k i
  ends_items k i (Some (Accept zero v)) p d t e = absurd (empty_never_ends b.empty v d t e)
  ends_items k i (Some (Accept (suc m) v)) p d t e = absurd (cc (e))
  ends_items k i (Some Refuse) p d t e = let h = refused_ends (ltb k b.least) k b.least d t refl e in (h.0, inl (p.0, p.1, h.1))
  ends_items k i (Some (Stop why)) p d t e = absurd (cc (e))
  ends_items k i None p d t e = (cc (e), inr p)

  may_take : (kind : Option ErrorKind) → b.empty ≡ kind → (k : ℕ) (a : Option (Outcome V)) (n : ℕ) (v : V) → Takes n v ≡ item_turn b k a → MayTake kind n
  may_take (Some kind) is k a n v e = taken_consumes b kind is k a n v e
  may_take None is k a n v e = tt

  takes_item : (k : ℕ) (i : I) (n : ℕ) (v : V) → TurnsBy b.most (item_turn b) (λ _. Item) k i (Takes n v) →
      TakesItem Item (MayTake b.empty) b.most k i (Takes n v)
  takes_item k i n v z =
      let got = subst (λ y. Replies b.most (λ _. Item) k i y) (taken_accepted b k z.reply n v z.fact) z.replied in
      (got.0, got.1, may_take b.empty refl k z.reply n v z.fact)

  may_be : (kind : Option ErrorKind) (n : ℕ) → MayTake kind n → (kind ≡ None) ⊎ (0 < n)
  may_be (Some kind) n h = inr h
  may_be None n h = inl refl

  takes_turn : (k : ℕ) (i : I) (n : ℕ) (v : V) → TakesItem Item (MayTake b.empty) b.most k i (Takes n v) →
      TurnsBy b.most (item_turn b) (λ _. Item) k i (Takes n v)
  takes_turn k i n v z = record { reply = Some (Accept n v); replied = (z.0, z.1); fact = taken_turn b k n v (may_be b.empty n z.2) }

  ends_turn : (k : ℕ) (i : I) → EndsItems Item b.least b.most k i → TurnsBy b.most (item_turn b) (λ _. Item) k i (Ends (Accept 0 tt))
  ends_turn k i (inl z) = record { reply = Some Refuse; replied = (z.0, z.1); fact = ap (λ few. refused_turn few) (sym (le-ltb k b.least z.2)) }
  ends_turn k i (inr z) = record { reply = None; replied = z; fact = refl }

module _ {I A V : Type 0} (w : Model I A) (b : Limits) (Item : I → Outcome V → Type 0) where
  in_turn : (d : ℕ) (t : Unit {0}) (k : ℕ) (i : I) (vs : List V) (n : ℕ) →
      Pieces w (TurnsBy b.most (item_turn b) (λ _. Item)) (λ h j. TurnsBy b.most (item_turn b) (λ _. Item) h j (Ends (Accept d t))) k i vs n → (d ≡ 0) ×
      Pieces w (TakesItem Item (MayTake b.empty) b.most) (EndsItems Item b.least b.most) k i vs n
  in_turn d t k i [] n p =
      let e = ends_items b Item k i (p.1).reply (p.1).replied d t (p.1).fact in
      (e.0, (p.0, e.1))
  in_turn d t k i (v ∷ vs) n p =
      let more = in_turn d t (k + 1) p.2 vs p.1 p.5 in
      (more.0, (p.0, p.1, p.2, takes_item b Item k i p.0 v p.3, p.4, more.1, p.6))

  by_turns : (k : ℕ) (i : I) (vs : List V) (n : ℕ) → Pieces w (TakesItem Item (MayTake b.empty) b.most) (EndsItems Item b.least b.most) k i vs n →
      Pieces w (TurnsBy b.most (item_turn b) (λ _. Item)) (λ h j. TurnsBy b.most (item_turn b) (λ _. Item) h j (Ends (Accept 0 tt))) k i vs n
  by_turns k i [] n p = (p.0, ends_turn b Item k i p.1)
  by_turns k i (v ∷ vs) n p = (p.0, p.1, p.2, takes_turn b Item k i p.0 v p.3, p.4, by_turns (k + 1) p.2 vs p.1 p.5, p.6)

module _ {I A V E : Type 0} (w : Model I A) (errs : Errors I E) (b : Limits) (Grows : Type 0) (m : Meaning I V E) (s : Bool) (i : I) (n : ℕ) (vs : List V) where
  pub accepted_in_turn : (items_meaning w errs b Grows m).answers s i (Accept n vs) → InTurn w (m.answers s) (MayTake b.empty) b.least b.most i n vs
  accepted_in_turn a =
      let e = ending_accepts n a.taken a.trees vs a.ending a.outcome_is in
      let same : vs ≡ a.trees = accepted_tree n a.taken a.trees vs a.ending a.outcome_is in
      let p = subst (λ o. Pieces w (TurnsBy b.most (item_turn b) (λ _. m.answers s))
      (λ h j. TurnsBy b.most (item_turn b) (λ _. m.answers s) h j (Ends o)) 0 i a.trees a.taken) e.2 a.pieces in
      let q = in_turn w b (m.answers s) e.0 e.1 0 i a.trees a.taken p in
      let whole : n ≡ a.taken = omega (arith, e.3, q.0) in
      subst (λ us. InTurn w (m.answers s) (MayTake b.empty) b.least b.most i n us) (sym same)
      (subst (λ c. InTurn w (m.answers s) (MayTake b.empty) b.least b.most i c a.trees) (sym whole) q.1)

  pub in_turn_accepted : InTurn w (m.answers s) (MayTake b.empty) b.least b.most i n vs → (items_meaning w errs b Grows m).answers s i (Accept n vs)
  in_turn_accepted h = record {
    trees = vs;
    taken = n;
    ending = Accept 0 tt;
    pieces = by_turns w b (m.answers s) 0 i vs n h;
    outcome_is =
        ap (λ c. Accept c vs) (omega arith);
  }

-- what items within limits accept are the items that the part accepts in turn
pub items_accept : {I A V E : Type 0} (w : Model I A) (errs : Errors I E) (b : Limits) (Grows : Type 0) (m : Meaning I V E) →
    AcceptsItems w (Unit {0}) (MayTake b.empty) b.least b.most m (items_meaning w errs b Grows m)
items_accept w errs b Grows m s i n vs = ((λ a. (tt, accepted_in_turn w errs b Grows m s i n vs a)), (λ h. in_turn_accepted w errs b Grows m s i n vs h.1))
