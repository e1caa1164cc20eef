-- Lemmas on the items in a buffer, and on what is shown of it.
use Rattle.std.proofs.Common.{◌≡◌, ℕ, ◌+◌, ◌<◌, ◌≤◌, Bool, true, false, Err, Option, Some, None, List, ◌∷◌, [], ◌++◌, length, refl, suc, arith}
use Rattle.std.proofs.Common.{inl, inr, ap, subst, sym, ◌∙◌}
use Rattle.std.specs.Prelude.{drop, set}
use Rattle.std.specs.List.{AllZip}
use Rattle.std.proofs.lemmas.Bool.{lt-ltb}
use Rattle.std.proofs.lemmas.List.{length-set}
use Rattle.nom_internal.specs.Prelude.{Needed, Error, OutOfMemory, Built, Modes, Model, Accept, Refuse, Stop, RanOut, Shown}
use Rattle.nom_internal.specs.Prelude.{Meaning, ShowsMeaning}
use Rattle.nom_error.specs.declared.answer.Err as Answer
use Rattle.nom_repeat.specs.Repeat.{TurnsBy, Pieces}
use Rattle.nom_repeat.specs.Items.{item_turn, refused_turn}
use Rattle.nom_repeat.proofs.Accumulating.{zip_push}
use Rattle.nom_repeat.proofs.Parts.{part_refused}
use Rattle.nom_repeat.proofs.Repeated.{IsNoRefusal, Collected, pieces_end}
use Rattle.nom_multi.specs.Fill.{HoldsItems, StopsFilling, IsFilled, IsPut}
use Rattle.nom_repeat.specs.Bounds.{exact_limits}

length_zip : {V T : Type 0} (P : V → T → Type 0) (vs : List V) (xs : List T) → AllZip P vs xs → length vs ≡ length xs
length_zip P [] [] h = refl
length_zip P [] (x ∷ xs) h = absurd h
length_zip P (v ∷ vs) [] h = absurd h
length_zip P (v ∷ vs) (x ∷ xs) h = ap suc (length_zip P vs xs h.1)

-- the next place after a front is written
set_next : {T : Type 0} (xs old : List T) (x : T) → length xs < length old → set (xs ++ drop (length xs) old) (length xs) x ≡ (xs ++ x ∷ []) ++
    drop (length (xs ++ x ∷ [])) old
set_next [] [] x h = absurd (omega (arith, h))
set_next [] (y ∷ ys) x h = refl
set_next (z ∷ zs) [] x h = absurd (omega (arith, h))
set_next (z ∷ zs) (y ∷ ys) x h = ap (λ l. z ∷ l) (set_next zs ys x (omega (arith, h)))

put_length : {T : Type 0} (old : List T) (place : ℕ) (item : Option T) (new : List T) → IsPut old place item new → length new ≡ length old
put_length old place (Some x) new h = ap length h ∙ length-set old place x
put_length old place None new h = ap length h

-- the buffer is as long as before
pub still_long : {T : Type 0} {n : ℕ} (old : List T) (place : ℕ) (item : Option T) (new : List T) → length old ≡ n → IsPut old place item new → length new ≡ n
still_long old place item new e h = put_length old place item new h ∙ e

pub one_longer : {V : Type 0} (vs : List V) (v : V) {count : ℕ} → count ≡ length vs → count + 1 ≡ length (vs ++ v ∷ [])
one_longer {V} vs v e = omega (arith, e, more vs)
  where
    more : (us : List V) → length (us ++ v ∷ []) ≡ length us + 1
    more [] = refl
    more (u ∷ us) = omega (arith, more us)

pub fits : {count l n k : ℕ} → count < l → l ≡ n → count ≡ k → k < n
fits h e c = omega (arith, h, e, c)

pub is_over : {count l n k : ℕ} → l ≤ count → l ≡ n → count ≡ k → k < n → ⊥
is_over h e c z = omega (arith, h, z, e, c)

module _ {V T : Type 0} (P : V → T → Type 0) where
  pub holds_none : (builds : Bool) (old : List T) → HoldsItems P builds old [] old
  holds_none true old = ([], tt, refl)
  holds_none false old = refl

  none_some : (x : T) → None ≡ Some x → ⊥
  none_some x e = absurd (cc (e))

  -- one output more
  pub holds_more : (builds : Bool) (old : List T) (vs : List V) (v : V) (mid new : List T) (count : ℕ) (item : Option T) → HoldsItems P builds old vs mid →
      count ≡ length vs → count < length old → Built builds (P v) item → IsPut mid count item new → HoldsItems P builds old (vs ++ v ∷ []) new
  holds_more true old vs v mid new count (Some x) h c l b p =
      let one : x ≡ b.0 = cc (b.1) in
      let here : count ≡ length h.0 = c ∙ length_zip P vs h.0 h.1 in (
        h.0 ++ x ∷ [],
        zip_push P vs h.0 v x h.1 (subst (λ z. P v z) (sym one) b.2),
        p ∙
            (ap (λ z. set z count x) h.2 ∙ (ap (λ z. set (h.0 ++ drop (length h.0) old) z x) here ∙ set_next h.0 old x (subst (λ z. z < length old) here l))),
      )
  holds_more true old vs v mid new count None h c l b p = absurd (none_some b.0 b.1)
  holds_more false old vs v mid new count (Some x) h c l b p = absurd (none_some x (sym b))
  holds_more false old vs v mid new count None h c l b p = p ∙ h

module _ {I A V E : Type 0} {w : Model I A} (m : Meaning I V E) (n : ℕ) (mode : Modes) {Follows : Type 0} {Held : List V → Type 0} {i j : I}
    (c : Collected w (TurnsBy (Some n) (item_turn (exact_limits n)) (λ _. m.answers mode.streaming)) Held i j) where
  -- the buffer is full
  pub stops_full : (length c.trees < n → ⊥) → StopsFilling m n mode Follows (length c.trees) j
  stops_full h = inl (Accept 0 tt, record { reply = None; replied = h; fact = refl })

  module _ (below : length c.trees < n) {X : Type 0} {IsItem : V → X → Type 0} {f : Answer.Err E (Option E) Needed} where
    pub stops_refused : {x : Option E} → f ≡ Error x → ShowsMeaning w IsItem m mode j (Err f) → StopsFilling m n mode Follows (length c.trees) j
    stops_refused e h = inl (
      Refuse,
      record { reply = Some Refuse; replied = (below, part_refused e h); fact = ap (λ z. refused_turn z) (sym (lt-ltb (length c.trees) n below)) },
    )

    -- all else stops it too
    pub stops_else : {g : Answer.Err E (Option E) Needed} → f ≡ g → IsNoRefusal g → ShowsMeaning w IsItem m mode j (Err f) →
        (g ≡ OutOfMemory → Follows) → StopsFilling m n mode Follows (length c.trees) j
    stops_else is other (RanOut e h) follows = inr (h, follows (cc (is, e)))
    stops_else is other (Shown (Accept k v) a s) follows = absurd (cc (s.4))
    stops_else {g = g} is other (Shown Refuse a s) follows = let e : g ≡ Error s.0 = cc (is, s.2) in absurd (subst (λ y. IsNoRefusal y) e other)
    stops_else is other (Shown (Stop why) a s) follows = inl (Stop why, record { reply = Some (Stop why); replied = (below, a); fact = refl })

-- what the buffer holds where the items stop
pub filled : {I A V T E : Type 0} {w : Model I A} {P : V → T → Type 0} {m : Meaning I V E} {mode : Modes} {i j : I} {old new : List T}
    {Counted : List V → Type 0} {Follows : Type 0}
    (c : Collected w (TurnsBy (Some (length old)) (item_turn (exact_limits (length old))) (λ _. m.answers mode.streaming))
    (λ vs. HoldsItems P mode.outputs old vs new × Counted vs) i j) → StopsFilling m (length old) mode Follows (length c.trees) j →
    IsFilled w P m mode i old new Follows
filled {w = w} {m = m} {mode = mode} {i = i} {j = j} {old = old} {Follows = Follows} c h = record {
  trees = c.trees;
  taken = c.taken;
  pieces = pieces_end w (TurnsBy (Some (length old)) (item_turn (exact_limits (length old))) (λ _. m.answers mode.streaming))
      (StopsFilling m (length old) mode Follows) j (length c.trees) h 0 i c.trees c.taken (omega arith) c.pieces;
  holds = c.held.0;
}

-- it is filled, whatever else follows from memory running out
module _ {I A V E : Type 0} (w : Model I A) (m : Meaning I V E) (n : ℕ) (mode : Modes) {Lacked Follows : Type 0} (f : Lacked → Follows) where
  stops_then : (k : ℕ) (j : I) → StopsFilling m n mode Lacked k j → StopsFilling m n mode Follows k j
  stops_then k j (inl h) = inl h
  stops_then k j (inr h) = inr (h.0, f h.1)

  pieces_then : (k : ℕ) (i : I) (vs : List V) (taken : ℕ) →
      Pieces w (TurnsBy (Some n) (item_turn (exact_limits n)) (λ _. m.answers mode.streaming)) (StopsFilling m n mode Lacked) k i vs taken →
      Pieces w (TurnsBy (Some n) (item_turn (exact_limits n)) (λ _. m.answers mode.streaming)) (StopsFilling m n mode Follows) k i vs taken
  pieces_then k i [] taken p = (p.0, stops_then k i p.1)
  pieces_then k i (v ∷ vs) taken p = (p.0, p.1, p.2, p.3, p.4, pieces_then (k + 1) p.2 vs p.1 p.5, p.6)

pub filled_then : {I A V T E : Type 0} {w : Model I A} {P : V → T → Type 0} {m : Meaning I V E} {mode : Modes} {i : I} {old new : List T}
    {Lacked Follows : Type 0} → (Lacked → Follows) → IsFilled w P m mode i old new Lacked → IsFilled w P m mode i old new Follows
filled_then {w = w} {m = m} {mode = mode} {i = i} {old = old} f h = record {
  trees = h.trees;
  taken = h.taken;
  pieces = pieces_then w m (length old) mode f 0 i h.trees h.taken h.pieces;
  holds = h.holds;
}
