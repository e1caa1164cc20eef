-- A member's part in a round of a permutation.
use Rattle.std.specs.Prelude.{◌≡◌, ◌+◌, Bool, true, false, List, Result, Ok, Err, Option, Some, None, refl}
use Rattle.std.proofs.Common.{sym, ◌∙◌, ap, subst}
use Rattle.nom_internal.specs.Prelude.{PResult, Needed, Incomplete, Error, Failure, OutOfMemory, Model, Built, Modes, modes, with_outputs, Outcome, Accept}
use Rattle.nom_internal.specs.Prelude.{Refuse, Stop, ShowsOutcome, ShowsAnswer, RanOut, Shown, Meaning, labelled_meaning, NextBlames, NextRunsOut, OrBlames}
use Rattle.nom_internal.specs.Prelude.{or_meaning, OnError, ShowsNext, FirstFails, FirstRefuses, NextFails, NextRefuses, Fails, Needs}
use Rattle.nom_error.specs.declared.answer.Err as Answer
use Rattle.nom_choose.specs.declared.slots.Slot.{Slot}
use Rattle.nom_choose.specs.declared.slots.Slot.TheVariants.{Waiting, Applied}
use Rattle.nom_branch.specs.Members.{Member, Choice, IsOver, or_waiting, tried, with_last}
use Rattle.nom_branch.specs.Members.Choice.{NoChoice, Among}
use Rattle.nom_choose.specs.Tries.{Fills, TriesFirst, TriesAfter, Tries}
use Rattle.nom_branch.specs.Rounds.{SlotHolds, IsApplied, waits, applies, as_answer, WhereRefused, ShowsRound, HasTried}
use Rattle.nom_branch.specs.laws.NestedLaws.{or_others, last_tried, others_over}
use Rattle.nom_internal.proofs.Cased.{labelled_shown}
use Rattle.nom_internal.proofs.Shown.{both_built}
use Rattle.nom_internal.proofs.Choices.{shown_map, next_labelled, or_shown}

-- a member that can be asked for either kind of outputs answers as where they are
abbrev pub fixed : {I V E : Type 0} → Bool → Meaning I V E → Meaning I V E
fixed outputs m = record m { may_run_out = λ mode. m.may_run_out (with_outputs outputs mode) }

module _ {I V E : Type 0} (Joins : E → E → E → Type 0) (m : Meaning I V E) (outputs s : Bool) (i : I) (First : E → Type 0) where
  next_fixed : (e : E) → NextBlames Joins m s i First e → NextBlames Joins (fixed outputs m) s i First e
  next_fixed e (NextFails f) = NextFails f
  next_fixed e (NextRefuses a j) = NextRefuses a j

  next_unfixed : (e : E) → NextBlames Joins (fixed outputs m) s i First e → NextBlames Joins m s i First e
  next_unfixed e (NextFails f) = NextFails f
  next_unfixed e (NextRefuses a j) = NextRefuses a j

or_unfixed : {I V E : Type 0} (Joins : E → E → E → Type 0) (a b : Meaning I V E) (outputs s : Bool) (i : I) (e : E) →
    OrBlames Joins (fixed outputs a) (fixed outputs b) s i e → OrBlames Joins a b s i e
or_unfixed Joins a b outputs s i e (FirstFails f) = FirstFails f
or_unfixed Joins a b outputs s i e (FirstRefuses r n) = FirstRefuses r (next_unfixed Joins b outputs s i (a.blames s i) e n)

module _ {I A V O E : Type 0} (w : Model I A) (IsOutput : V → O → Type 0) (outputs errors s : Bool) (i : I) (Answers : Outcome V → Type 0)
    (IsError : E → Type 0) (RunsOut : Type 0) (Held : V → Type 0) (before slot : Slot O) (fills : (v : V) → SlotHolds outputs IsOutput (Some v) slot → Held v)
  where
    -- a member's answer, and the place that it fills
    pub fills_shown : (q : PResult I O E) (r : Result I (Answer.Err E (Option E) Needed)) →
        ShowsAnswer w IsOutput (modes outputs errors s) i Answers IsError RunsOut q → Fills before q slot r →
        ShowsAnswer w (λ v _. Held v) (modes true errors s) i Answers IsError RunsOut (as_answer r)
    fills_shown q r (RanOut e h) f = let g = rw e at f in RanOut (ap as_answer g.1) h
    fills_shown q r (Shown (Accept n v) a h) f =
        let g = rw h.4 at f in
        Shown (Accept n v) a (h.0, Some tt, h.2, (tt, refl, fills v (h.1, g.0, h.3)), ap as_answer g.1)
    fills_shown q r (Shown Refuse a h) f = let g = rw h.2 at f in Shown Refuse a (h.0, h.1, ap as_answer g.1)
    fills_shown q r (Shown (Stop (Fails cause)) a h) f = let g = rw h.2 at f in Shown (Stop (Fails cause)) a (h.0, h.1, ap as_answer g.1)
    fills_shown q r (Shown (Stop (Needs k)) a h) f = let g = rw h.2 at f in Shown (Stop (Needs k)) a (h.0, h.1, ap as_answer g.1)

module _ {I A T E : Type 0} (w : Model I A) (Held Held' : T → Type 0) (mode : Modes) (i : I) (Answers : Outcome T → Type 0) (IsError : E → Type 0)
    (RunsOut : Type 0) where
  lost_of : (f : Answer.Err E (Option E) Needed) (o : Outcome T) → ShowsOutcome w (λ u _. Held u) (with_outputs true mode) i IsError o (as_answer (Err f)) →
      ShowsOutcome w (λ u _. Held' u) (with_outputs true mode) i IsError o (as_answer (Err f))
  lost_of f (Accept n v) h = absurd (cc (h.4))
  lost_of f Refuse h = h
  lost_of f (Stop why) h = h

  -- a round that applied none, whatever the places hold
  lost_shown : (f : Answer.Err E (Option E) Needed) →
      ShowsAnswer w (λ u _. Held u) (with_outputs true mode) i Answers IsError RunsOut (as_answer (Err f)) →
      ShowsAnswer w (λ u _. Held' u) (with_outputs true mode) i Answers IsError RunsOut (as_answer (Err f))
  lost_shown f (RanOut e h) = RanOut e h
  lost_shown f (Shown o a h) = Shown o a (lost_of f o h)

  kept_of : (j : I) → ((u : T) → Held u → Held' u) → (o : Outcome T) → ShowsOutcome w (λ u _. Held u) (with_outputs true mode) i IsError o (as_answer (Ok j)) →
      ShowsOutcome w (λ u _. Held' u) (with_outputs true mode) i IsError o (as_answer (Ok j))
  kept_of j f (Accept n v) h = (h.0, h.1, h.2, (h.3.0, h.3.1, f v h.3.2), h.4)
  kept_of j f Refuse h = absurd (cc (h.2))
  kept_of j f (Stop (Fails cause)) h = absurd (cc (h.2))
  kept_of j f (Stop (Needs k)) h = absurd (cc (h.2))

  -- a round that applied a member, with places that hold as much
  kept_shown : (j : I) → ((u : T) → Held u → Held' u) →
      ShowsAnswer w (λ u _. Held u) (with_outputs true mode) i Answers IsError RunsOut (as_answer (Ok j)) →
      ShowsAnswer w (λ u _. Held' u) (with_outputs true mode) i Answers IsError RunsOut (as_answer (Ok j))
  kept_shown j f (RanOut e h) = RanOut e h
  kept_shown j f (Shown o a h) = Shown o a (kept_of j f o h)

-- a place that isn't filled stays
fills_refused : {I O E : Type 0} (Fact : Type 0) (before slot : Slot O) (q : PResult I O E)
    (r : Result I (Answer.Err E (Option E) Needed)) → (slot ≡ before → Fact) → Fills before q slot r → WhereRefused Fact r
fills_refused Fact before slot (Ok a) r f h = subst (λ z. WhereRefused Fact z) (sym h.1) tt
fills_refused {I = I} {E = E} Fact before slot (Err e) r f h = subst (λ z. WhereRefused Fact z) (sym h.1) (of e)
  where
    of : (x : Answer.Err E (Option E) Needed) → WhereRefused {I = I} Fact (Err x)
    of (Incomplete k) = tt
    of (Error x) = f h.0
    of (Failure x) = tt
    of OutOfMemory = tt

module _ {I A T V O E : Type 0} (w : Model I A) (IsOutput : V → O → Type 0) (Joins : E → E → E → Type 0) (Grows : Type 0) (m : Meaning I V E)
    (put : V → T) (outputs errors s : Bool) (i : I) (t : T) (Held Held' : T → Type 0) (before slot : Slot O)
    (stays : slot ≡ before → (u : T) → Held u → Held' u) (fills : (v : V) → SlotHolds outputs IsOutput (Some v) slot → Held t → Held' (put v)) where
  first_step : (r : Result I (Answer.Err E (Option E) Needed)) → Held t → TriesFirst w IsOutput m (modes outputs errors s) i before slot r →
      ShowsRound w (modes outputs errors s) i Held' (labelled_meaning put m) r × WhereRefused (Held' t) r
  first_step r h g = (
    labelled_shown w put (λ v _. Held' (put v)) (λ u _. Held' u) (λ u o k. k) (fixed outputs m) (modes true errors s) i (as_answer r)
        (fills_shown w IsOutput outputs errors s i (m.answers s i) (m.blames s i) (m.may_run_out (modes outputs errors s) i)
        (λ v. Held' (put v)) before slot (λ v k. fills v k h) g.0 r g.1 g.2),
    fills_refused (Held' t) before slot g.0 r (λ e. stays e t h) g.2,
  )

  next_step : (o : Meaning I T E) (b r : Result I (Answer.Err E (Option E) Needed)) → ShowsRound w (modes outputs errors s) i Held o b →
      WhereRefused (Held t) b → TriesAfter w IsOutput Joins Grows m (modes outputs errors s) i b before slot r →
      ShowsRound w (modes outputs errors s) i Held' (or_meaning Joins Grows o (labelled_meaning put m)) r × WhereRefused (Held' t) r
  next_step o b r h k g = by_before b h k g
    where
      both : (c : Result I (Answer.Err E (Option E) Needed)) → ShowsRound w (modes outputs errors s) i Held' o c →
          OnError (ShowsNext w (λ u _. Held' u) Joins Grows (fixed outputs (labelled_meaning put m)) (modes true errors s) i) (as_answer c)
          (as_answer r) → ShowsRound w (modes outputs errors s) i Held' (or_meaning Joins Grows o (labelled_meaning put m)) r
      both c h g =
          let n = labelled_meaning put m in
          let f = or_meaning Joins Grows (fixed outputs o) (fixed outputs n) in
          let g' = or_meaning Joins Grows o n in
          shown_map w (λ u _. Held' u) (modes true errors s) i (f.answers s i) (g'.answers s i) (f.blames s i) (g'.blames s i)
          (f.may_run_out (modes true errors s) i) (g'.may_run_out (modes outputs errors s) i) (as_answer r) (λ p a. a)
          (λ e b. or_unfixed Joins o n outputs s i e b) (λ k. k)
          (or_shown w (λ u _. Held' u) Joins Grows (fixed outputs o) (fixed outputs n) (modes true errors s) i (as_answer c) (as_answer r) h g)

      lost : (f : Answer.Err E (Option E) Needed) → ShowsRound w (modes outputs errors s) i Held o (Err f) →
          ShowsRound w (modes outputs errors s) i Held' o (Err f)
      lost f h = lost_shown w Held Held' (modes outputs errors s) i (o.answers s i) (o.blames s i) (o.may_run_out (modes outputs errors s) i) f h

      by_before : (b : Result I (Answer.Err E (Option E) Needed)) → ShowsRound w (modes outputs errors s) i Held o b → WhereRefused (Held t) b →
          TriesAfter w IsOutput Joins Grows m (modes outputs errors s) i b before slot r →
          ShowsRound w (modes outputs errors s) i Held' (or_meaning Joins Grows o (labelled_meaning put m)) r × WhereRefused (Held' t) r
      by_before (Ok j) h k g = (
        both (Ok j)
            (kept_shown w Held Held' (modes outputs errors s) i (o.answers s i) (o.blames s i) (o.may_run_out (modes outputs errors s) i) j (stays g.0) h)
            (ap as_answer g.1),
        subst (λ z. WhereRefused (Held' t) z) (sym g.1) tt,
      )
      by_before (Err (Incomplete d)) h k g =
          (both (Err (Incomplete d)) (lost (Incomplete d) h) (ap as_answer g.1), subst (λ z. WhereRefused (Held' t) z) (sym g.1) tt)
      by_before (Err (Error x)) h k g = (
        both (Err (Error x)) (lost (Error x) h)
            (next_labelled w put (λ v _. Held' (put v)) (λ u _. Held' u) (λ u o k. k) Joins Grows (fixed outputs m) (modes true errors s) i x (as_answer r)
            (λ y. shown_map w (λ v _. Held' (put v)) (modes true errors s) i (m.answers s i) (m.answers s i) (NextBlames Joins m s i (λ a. x ≡ Some a))
            (NextBlames Joins (fixed outputs m) s i (λ a. x ≡ Some a)) (NextRunsOut Grows m (modes outputs errors s) i)
            (NextRunsOut Grows (fixed outputs m) (modes true errors s) i) (as_answer r) (λ p a. a)
            (λ e b. next_fixed Joins m outputs s i (λ a. x ≡ Some a) e b) (λ z. z)
            (fills_shown w IsOutput outputs errors s i (m.answers s i) (NextBlames Joins m s i (λ a. x ≡ Some a))
            (NextRunsOut Grows m (modes outputs errors s) i) (λ v. Held' (put v)) before slot (λ v l. fills v l k) g.0 r (g.1 y) g.2))),
        fills_refused (Held' t) before slot g.0 r (λ e. stays e t k) g.2,
      )
      by_before (Err (Failure e)) h k g = (both (Err (Failure e)) (lost (Failure e) h) (ap as_answer g.1), subst (λ z. WhereRefused (Held' t) z) (sym g.1) tt)
      by_before (Err OutOfMemory) h k g = (both (Err OutOfMemory) (lost OutOfMemory h) (ap as_answer g.1), subst (λ z. WhereRefused (Held' t) z) (sym g.1) tt)

  same_step : (o : Choice I T E) (round round' : Option (Result I (Answer.Err E (Option E) Needed))) → slot ≡ before → round' ≡ round →
      HasTried w (modes outputs errors s) i Held t o round → HasTried w (modes outputs errors s) i Held' t o round'
  same_step NoChoice round round' e f h = (f ∙ h.0, stays e t h.1)
  same_step (Among n) round round' e f h = (h.0, f ∙ h.1, shown h.0 h.2, refused h.0 h.3)
    where
      shown : (r : Result I (Answer.Err E (Option E) Needed)) → ShowsRound w (modes outputs errors s) i Held n r →
          ShowsRound w (modes outputs errors s) i Held' n r
      shown (Ok j) h = kept_shown w Held Held' (modes outputs errors s) i (n.answers s i) (n.blames s i) (n.may_run_out (modes outputs errors s) i) j
          (stays e) h
      shown (Err f) h = lost_shown w Held Held' (modes outputs errors s) i (n.answers s i) (n.blames s i) (n.may_run_out (modes outputs errors s) i) f h

      refused : (r : Result I (Answer.Err E (Option E) Needed)) → WhereRefused (Held t) r → WhereRefused (Held' t) r
      refused (Ok j) h = tt
      refused (Err (Incomplete k)) h = tt
      refused (Err (Error x)) h = stays e t h
      refused (Err (Failure x)) h = tt
      refused (Err OutOfMemory) h = tt

  -- one member's part in a round
  pub member_step : (o : Choice I T E) (x : Option V) (round round' : Option (Result I (Answer.Err E (Option E) Needed))) →
      SlotHolds outputs IsOutput x before → HasTried w (modes outputs errors s) i Held t o round →
      Tries w IsOutput Joins Grows m (modes outputs errors s) i before round slot round' →
      HasTried w (modes outputs errors s) i Held' t (or_waiting Joins Grows o m put x) round'
  member_step o (Some v) round round' h k g =
      let a = subst (λ z. Tries w IsOutput Joins Grows m (modes outputs errors s) i z round slot round') h.1 g in
      same_step o round round' (a.0 ∙ sym h.1) a.1 k
  member_step NoChoice None round round' h k g =
      let a = subst (λ z. Tries w IsOutput Joins Grows m (modes outputs errors s) i Waiting z slot round') k.0
      (subst (λ z. Tries w IsOutput Joins Grows m (modes outputs errors s) i z round slot round') h g) in
      let r = first_step a.0 k.1 (subst (λ z. TriesFirst w IsOutput m (modes outputs errors s) i z slot a.0) (sym h) a.1) in
      (a.0, a.2, r.0, r.1)
  member_step (Among n) None round round' h k g =
      let a = subst (λ z. Tries w IsOutput Joins Grows m (modes outputs errors s) i Waiting z slot round') k.1
      (subst (λ z. Tries w IsOutput Joins Grows m (modes outputs errors s) i z round slot round') h g) in
      let r = next_step n k.0 a.0 k.2 k.3 (subst (λ z. TriesAfter w IsOutput Joins Grows m (modes outputs errors s) i k.0 z slot a.0) (sym h) a.1) in
      (a.0, a.2, r.0, r.1)

-- a place that stays
pub holds_same : {V O : Type 0} (outputs : Bool) (IsOutput : V → O → Type 0) (x : Option V) (before slot : Slot O) → slot ≡ before →
    SlotHolds outputs IsOutput x before → SlotHolds outputs IsOutput x slot
holds_same outputs IsOutput x before slot e h = subst (λ z. SlotHolds outputs IsOutput x z) (sym e) h

-- a member whose place is among those that are all applied
pub step_applied : {I T V E : Type 0} (Joins : E → E → E → Type 0) (Grows : Type 0) (m : Meaning I V E) (put : V → T) (o : Choice I T E)
    (x : Option V) → IsOver (or_waiting Joins Grows o m put x) → IsOver o × (v : V) × (x ≡ Some v)
step_applied Joins Grows m put o (Some v) h = (h, v, refl)
step_applied Joins Grows m put NoChoice None h = absurd h
step_applied Joins Grows m put (Among n) None h = absurd h

-- the same of one more member, after the others
pub more_applied : {I T V E : Type 0} (Joins : E → E → E → Type 0) (Grows : Type 0) (ms : List (Member I T E)) (m : Meaning I V E) (t : T × Option V) →
    IsOver (tried Joins Grows (with_last ms m) t) → IsOver (tried Joins Grows ms t.0) × (v : V) × (t.1 ≡ Some v)
more_applied Joins Grows ms m t h =
    let over = step_applied Joins Grows m (λ v. (t.0, Some v)) (or_others Joins Grows t NoChoice ms) t.1
    (subst (λ z. IsOver z) (last_tried Joins Grows m t NoChoice ms) h) in
    (others_over Joins Grows t NoChoice NoChoice ms (λ u. u) over.0, over.1, over.2)

-- what is taken from the place of an applied member
pub taken_built : {V O : Type 0} (outputs : Bool) (IsOutput : V → O → Type 0) (x : Option V) (v : V) (slot : Slot O) (r : Option O) → x ≡ Some v →
    SlotHolds outputs IsOutput x slot → ((b : Option O) → slot ≡ Applied b → r ≡ b) → Built outputs (IsApplied IsOutput x) r
taken_built outputs IsOutput x v slot r e h f =
    let k = subst (λ z. SlotHolds outputs IsOutput z slot) e h in
    subst (λ z. Built outputs (IsApplied IsOutput z) r) (sym e) (subst (λ z. Built outputs (IsOutput v) z) (sym (f k.0 k.1)) k.2)

module _ {I A V O E : Type 0} (w : Model I A) (IsOutput : V → O → Type 0) (Joins : E → E → E → Type 0) (Grows : Type 0) (m : Meaning I V E)
    (outputs errors s : Bool) (i : I) (slot : Slot O) where
  fill_counted : (q : PResult I O E) (r : Result I (Answer.Err E (Option E) Needed)) → Fills Waiting q slot r →
      waits slot + applies (Some r) ≡ 1
  fill_counted (Ok a) r h = rw (h.0, h.1) refl
  fill_counted (Err f) r h = rw (h.0, h.1) refl

  after_counted : (b r : Result I (Answer.Err E (Option E) Needed)) → TriesAfter w IsOutput Joins Grows m (modes outputs errors s) i b Waiting slot r →
      waits slot + applies (Some r) ≡ 1 + applies (Some b)
  after_counted (Ok j) r h = rw (h.0, h.1) refl
  after_counted (Err (Incomplete k)) r h = rw (h.0, h.1) refl
  after_counted (Err (Error x)) r h = fill_counted h.0 r h.2
  after_counted (Err (Failure e)) r h = rw (h.0, h.1) refl
  after_counted (Err OutOfMemory) r h = rw (h.0, h.1) refl

  -- a member is applied as its place is filled
  pub tries_counted : (before : Slot O) (round r : Option (Result I (Answer.Err E (Option E) Needed))) →
      Tries w IsOutput Joins Grows m (modes outputs errors s) i before round slot r → waits slot + applies r ≡ waits before + applies round
  tries_counted (Applied b) round r h = rw (h.0, h.1) refl
  tries_counted Waiting None r h = let a = fill_counted h.1.0 h.0 h.1.2 in rw h.2 a
  tries_counted Waiting (Some b) r h = let a = after_counted b h.0 h.1 in rw h.2 a

-- two facts of a pair
abbrev pub BothHold : {T U : Type 0} → (T → Type 0) → (U → Type 0) → T × U → Type 0
BothHold P Q o = P o.0 × Q o.1

-- outputs in another form
pub flat_built : {T U : Type 0} (outputs : Bool) (P : T → Type 0) (Q : U → Type 0) (form : T → U) (x : Option T) (r : Option U) →
    ((v : T) → P v → Q (form v)) → Built outputs P x → ((v : T) → x ≡ Some v → r ≡ Some (form v)) → (x ≡ None → r ≡ None) → Built outputs Q r
flat_built true P Q form x r f h some none = (form h.0, some h.0 h.1, f h.0 h.2)
flat_built false P Q form x r f h some none = none h

-- where an output isn't built, none is
pub none_built : {T U : Type 0} (outputs : Bool) (P : T → Type 0) (Q : U → Type 0) (x : Option T) → x ≡ None → Built outputs P x → Built outputs Q None
none_built true P Q x e h = cc (e, h.1)
none_built false P Q x e h = refl

-- two outputs, as a pair
pub pair_built : {T U : Type 0} (outputs : Bool) (P : T → Type 0) (Q : U → Type 0) (x : Option T) (y : Option U) (a : T) (b : U) → x ≡ Some a →
    y ≡ Some b → Built outputs P x → Built outputs Q y → Built outputs (BothHold P Q) (Some (a, b))
pair_built outputs P Q x y a b e f p q =
    both_built P Q outputs x y (Some (a, b)) p q (λ c d i j. let g : a ≡ c = cc (e, i) in let h : b ≡ d = cc (f, j) in rw (g, h) refl) (λ i. cc (e, i))
