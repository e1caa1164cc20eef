-- The laws of members, by those before the last and by the last.
use Rattle.std.specs.Prelude.{◌≡◌, ℕ, ◌+◌, Bool, List, [], ◌∷◌, length, Option, Some, None, refl}
use Rattle.std.proofs.Common.{◌∙◌, arith, ap, subst, sym}
use Rattle.nom_internal.specs.Prelude.{Model, View, pair_view, IsPinned, pair_pinned, Meaning, IsLawful, IsSteady}
use Rattle.nom_choose.specs.declared.slots.Slot.{Slot}
use Rattle.nom_internal.specs.declared.flat.One.{One}
use Rattle.nom_branch.specs.Members.{Member, member, EachMember, AllRun, AreSound, AreLawful, AreSteady, Choice, IsOver, or_waiting, or_members, tried}
use Rattle.nom_branch.specs.Members.{among_more, with_last}
use Rattle.nom_branch.specs.Members.Choice.{NoChoice, Among}
use Rattle.nom_branch.specs.Left.{count_of_left, left, here, LeavesOneFewer}
use Rattle.nom_branch.specs.laws.MemberLaws.{applied_pinned}
use Rattle.nom_branch.specs.Rounds.{SlotHolds, IsApplied, waits}
use Rattle.nom_branch.specs.laws.RoundLaws.{step_over}

-- a premise of all members is one of those before the last, and of the last
module _ {I T P E : Type 0} (Premise : (V : Type 0) → Meaning I V E → Type 0) (m : Meaning I P E) where
  each_other : (ms : List (Member I T E)) → EachMember (λ x. Premise x.Tree x.meaning) (with_last ms m) → EachMember (λ x. Premise x.Tree x.meaning) ms
  each_other [] h = tt
  each_other (x ∷ xs) h = (h.0, each_other xs h.1)

  the_last : (ms : List (Member I T E)) → EachMember (λ x. Premise x.Tree x.meaning) (with_last ms m) → Premise P m
  the_last [] h = h.0
  the_last (x ∷ xs) h = the_last xs h.1

module _ {I T P E : Type 0} (m : Meaning I P E) where
  each_last : (Fact : Member I T E → Type 0) (More : Member I (T × Option P) E → Type 0) → ((x : Member I T E) → Fact x → More (among_more x)) →
      (ms : List (Member I T E)) → EachMember Fact ms → More (member m (λ t. t.1) (λ t v. (t.0, Some v))) → EachMember More (with_last ms m)
  each_last Fact More f [] h k = (k, tt)
  each_last Fact More f (x ∷ xs) h k = (f x h.0, each_last Fact More f xs h.1 k)

  pub last_length : (ms : List (Member I T E)) → length (with_last {T = T} ms m) ≡ length ms + 1
  last_length [] = omega arith
  last_length (x ∷ xs) = omega (arith, last_length xs)

  pub others_run : (ms : List (Member I T E)) → AllRun (with_last ms m) → AllRun ms
  others_run = each_other (λ V x. x.Runs) m

  pub last_runs : (ms : List (Member I T E)) → AllRun (with_last ms m) → m.Runs
  last_runs = the_last (λ V x. x.Runs) m

  others_sound : (ms : List (Member I T E)) → AreSound (with_last ms m) → AreSound ms
  others_sound = each_other (λ V x. x.IsSound) m

  last_sound : (ms : List (Member I T E)) → AreSound (with_last ms m) → m.IsSound
  last_sound = the_last (λ V x. x.IsSound) m

  left_last : (ms : List (Member I T E)) (t : T × Option P) → left (with_last ms m) t ≡ left ms t.0 + count_of_left t.1
  left_last [] t = omega arith
  left_last (x ∷ xs) t = omega (arith, left_last xs t)

  last_one_fewer : (ms : List (Member I T E)) → EachMember (LeavesOneFewer ms) ms → EachMember (LeavesOneFewer (with_last ms m)) (with_last ms m)
  last_one_fewer ms h =
      let all = with_last {T = T} ms m in
      each_last (LeavesOneFewer ms) (LeavesOneFewer all)
      (λ x f t v e. omega (arith, left_last ms t, left_last ms (x.put t.0 v, t.1), f t.0 v e)) ms h
      (λ t v e. omega (arith, left_last ms t, left_last ms (t.0, Some v), ap count_of_left e))

-- where they are sound, members are lawful; of `none` no member is applied; to apply one leaves one fewer of these
pub record AreGood {I A T E : Type 0} (w : Model I A) (ms : List (Member I T E)) (none : T) : Type 0 where
  pub lawful : AreSound ms → AreLawful w ms
  pub all_wait : EachMember (λ x. x.tree none ≡ None) ms
  pub one_fewer : EachMember (LeavesOneFewer ms) ms

-- members that are stream parsers
pub record AreStream {I A T E : Type 0} (w : Model I A) (ms : List (Member I T E)) : Type 0 where
  pub steady : AreSound ms → AreSteady w ms

-- where members are sound and what pins each of them holds, two outputs of their trees are equal as viewed
pub record ArePinned {I T O E : Type 0} (view : View O) (ms : List (Member I T E)) (Pins : Type 0) (IsOutput : T → O → Type 0) : Type 0 where
  pub pinned : AreSound ms → Pins → IsPinned view IsOutput

module _ {I A P E : Type 0} {w : Model I A} (m : Meaning I P E) where
  pub one_good : (m.IsSound → IsLawful w m) → AreGood w (member m (λ t. t) (λ _ v. Some v) ∷ []) None
  one_good f = record { lawful = λ h. (f h.0, tt); all_wait = (refl, tt); one_fewer = (λ t v e. here t 0 e, tt) }

  pub one_stream : (m.IsSound → IsSteady w m) → AreStream w (member m (λ t. t) (λ _ v. Some v) ∷ [])
  one_stream f = record { steady = λ h. (f h.0, tt) }

  module _ {T : Type 0} {ms : List (Member I T E)} where
    pub more_good : {none : T} → AreGood w ms none → (m.IsSound → IsLawful w m) → AreGood w (with_last ms m) (none, None)
    more_good {none = none} k f = record {
      lawful = λ h. each_last m (λ x. IsLawful w x.meaning) (λ x. IsLawful w x.meaning) (λ x a. a) ms (k.lawful (others_sound m ms h)) (f (last_sound m ms h));
      all_wait = each_last m (λ x. x.tree none ≡ None) (λ x. x.tree (none, None) ≡ None) (λ x e. e) ms k.all_wait refl;
      one_fewer = last_one_fewer m ms k.one_fewer;
    }

    pub more_stream : AreStream w ms → (m.IsSound → IsSteady w m) → AreStream w (with_last ms m)
    more_stream k f = record {
      steady = λ h. each_last m (λ x. IsSteady w x.meaning) (λ x. IsSteady w x.meaning) (λ x a. a) ms (k.steady (others_sound m ms h)) (f (last_sound m ms h));
    }

-- the output of the first member
abbrev pub one_view : {O : Type 0} → View O → View (One O)
one_view view = record { Value = view.Value; value = λ o. view.value o.member }

module _ {I P O E : Type 0} {view : View O} (m : Meaning I P E) (IsOutput : P → O → Type 0) {Pins : Type 0} where
  pub one_pinned : (m.IsSound → Pins → IsPinned view IsOutput) →
      ArePinned (one_view view) (member m (λ t. t) (λ _ v. Some v) ∷ []) Pins (λ t o. IsApplied IsOutput t o.member)
  one_pinned f = record { pinned = λ h p. record { one_view = λ t a b. (applied_pinned (f h.0 p)).one_view t a.member b.member } }

  module _ {T U : Type 0} {before : View U} {ms : List (Member I T E)} {Others : Type 0} {AreOutputs : T → U → Type 0} where
    pub more_pinned : ArePinned before ms Others AreOutputs → (m.IsSound → Pins → IsPinned view IsOutput) →
        ArePinned (pair_view before view) (with_last ms m) (Others × Pins) (λ t o. AreOutputs t.0 o.0 × IsApplied IsOutput t.1 o.1)
    more_pinned k f = record {
      pinned = λ h p. pair_pinned (k.pinned (others_sound m ms h) p.0) (applied_pinned (f (last_sound m ms h) p.1));
    }

-- outputs made flat are equal as viewed where those that they are made of are
pub flat_members_pinned : {I T O U E : Type 0} {nested : View O} {view : View U} {ms : List (Member I T E)} {Pins : Type 0} {AreOutputs : T → O → Type 0} →
    ArePinned nested ms Pins AreOutputs → (form : nested.Value → view.Value) (pairs : U → O) → ((o : U) → form (nested.value (pairs o)) ≡ view.value o) →
    ArePinned view ms Pins (λ t o. AreOutputs t (pairs o))
flat_members_pinned k form pairs same = record {
  pinned = λ h p. record { one_view = λ t o q i j. sym (same o) ∙ (ap form ((k.pinned h p).one_view t (pairs o) (pairs q) i j) ∙ same q) };
}

module _ {I T P E : Type 0} (Joins : E → E → E → Type 0) (Grows : Type 0) where
  -- the choice among those of some members that aren't applied, with trees of one more
  abbrev pub or_others : T × P → Choice I (T × P) E → List (Member I T E) → Choice I (T × P) E
  or_others t o [] = o
  or_others t o (x ∷ xs) = or_others t (or_waiting Joins Grows o x.meaning (λ v. (x.put t.0 v, t.1)) (x.tree t.0)) xs

module _ {I T U Q E : Type 0} (Joins : E → E → E → Type 0) (Grows : Type 0) (m : Meaning I Q E) (put : Q → T) (label : Q → U) where
  over_waiting : (o : Choice I T E) (p : Choice I U E) (x : Option Q) → (IsOver o → IsOver p) → IsOver (or_waiting Joins Grows o m put x) →
      IsOver (or_waiting Joins Grows p m label x)
  over_waiting o p (Some v) f h = f h
  over_waiting NoChoice p None f h = absurd h
  over_waiting (Among n) p None f h = absurd h

module _ {I T P E : Type 0} (Joins : E → E → E → Type 0) (Grows : Type 0) where
  pub over_others : (t : T × P) (o : Choice I T E) (p : Choice I (T × P) E) (ms : List (Member I T E)) → (IsOver o → IsOver p) →
      IsOver (or_members Joins Grows t.0 o ms) → IsOver (or_others Joins Grows t p ms)
  over_others t o p [] f h = f h
  over_others t o p (x ∷ xs) f h =
      let put : x.Tree → T × P = λ v. (x.put t.0 v, t.1) in
      over_others t (or_waiting Joins Grows o x.meaning (x.put t.0) (x.tree t.0)) (or_waiting Joins Grows p x.meaning put (x.tree t.0)) xs
      (over_waiting Joins Grows x.meaning (x.put t.0) put o p (x.tree t.0) f) h

  pub others_over : (t : T × P) (o : Choice I T E) (p : Choice I (T × P) E) (ms : List (Member I T E)) → (IsOver p → IsOver o) →
      IsOver (or_others Joins Grows t p ms) → IsOver (or_members Joins Grows t.0 o ms)
  others_over t o p [] f h = f h
  others_over t o p (x ∷ xs) f h =
      let put : x.Tree → T × P = λ v. (x.put t.0 v, t.1) in
      others_over t (or_waiting Joins Grows o x.meaning (x.put t.0) (x.tree t.0)) (or_waiting Joins Grows p x.meaning put (x.tree t.0)) xs
      (over_waiting Joins Grows x.meaning put (x.put t.0) p o (x.tree t.0) f) h

module _ {I T P E : Type 0} (Joins : E → E → E → Type 0) (Grows : Type 0) (m : Meaning I P E) (t : T × Option P) where
  -- the choice among all, by the last
  pub last_tried : (o : Choice I (T × Option P) E) (ms : List (Member I T E)) →
      or_members Joins Grows t o (with_last ms m) ≡ or_waiting Joins Grows (or_others Joins Grows t o ms) m (λ v. (t.0, Some v)) t.1
  last_tried o [] = refl
  last_tried o (x ∷ xs) = last_tried (or_waiting Joins Grows o x.meaning (λ v. (x.put t.0 v, t.1)) (x.tree t.0)) xs

  -- where no place waits, no member is tried
  pub last_over : {O : Type 0} (outputs : Bool) (IsOutput : P → O → Type 0) (n : ℕ) (slot : Slot O) (ms : List (Member I T E)) →
      (n ≡ 0 → IsOver (tried Joins Grows ms t.0)) → SlotHolds outputs IsOutput t.1 slot → n + waits slot ≡ 0 → IsOver (tried Joins Grows (with_last ms m) t)
  last_over outputs IsOutput n slot ms f h z = subst IsOver (sym (last_tried NoChoice ms))
      (step_over Joins Grows m (λ v. (t.0, Some v)) outputs IsOutput n (or_others Joins Grows t NoChoice ms) t.1 slot
      (λ k. over_others Joins Grows t NoChoice NoChoice ms (λ u. u) (f k)) h z)
