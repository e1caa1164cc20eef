-- A round of some members, as a round of these and of one more that isn't tried yet.
use Rattle.std.specs.Prelude.{◌≡◌, Bool, true, Result, Ok, Err, Option, Some, None, List, [], ◌∷◌, refl}
use Rattle.std.proofs.Common.{ap, ◌∙◌, inl, inr}
use Rattle.nom_internal.specs.Prelude.{PResult, Needed, Incomplete, Error, Failure, OutOfMemory, Modes, with_outputs, Model, Outcome, Accept, Refuse, Stop}
use Rattle.nom_internal.specs.Prelude.{Fails, Needs, ShowsAnswer, IsFailure, RanOut, Shown, Meaning, labelled, labelled_meaning, GoesOnRefused, NextBlames}
use Rattle.nom_internal.specs.Prelude.{NextRunsOut, OrBlames, or_meaning, FirstFails, FirstRefuses, NextFails, NextRefuses}
use Rattle.nom_error.specs.declared.answer.Err as Answer
use Rattle.nom_internal.proofs.Choices.{shown_map}
use Rattle.nom_branch.specs.Members.{Member, Choice, or_waiting, or_members}
use Rattle.nom_branch.specs.Members.Choice.{NoChoice, Among}
use Rattle.nom_branch.specs.laws.NestedLaws.{or_others}
use Rattle.nom_branch.specs.Rounds.{as_answer, WhereRefused, ShowsRound, HasTried}

module _ {T U : Type 0} (put : T → U) where
  failure_kept : (o : Outcome T) → IsFailure o → IsFailure (labelled put o)
  failure_kept (Accept n v) h = absurd h
  failure_kept Refuse h = absurd h
  failure_kept (Stop (Fails cause)) h = tt
  failure_kept (Stop (Needs k)) h = absurd h

  module _ {Q : Type 0} (label : Q → T) where
    labelled_twice : (o : Outcome Q) → labelled put (labelled label o) ≡ labelled (λ v. put (label v)) o
    labelled_twice (Accept n v) = refl
    labelled_twice Refuse = refl
    labelled_twice (Stop why) = refl

module _ {I T U E : Type 0} (put : T → U) where
  -- what one meaning has, with its trees labelled the other has
  record Covers (m : Meaning I T E) (n : Meaning I U E) : Type 0 where
    pub answers : (s : Bool) (i : I) (o : Outcome T) → m.answers s i o → n.answers s i (labelled put o)
    pub blames : (s : Bool) (i : I) (e : E) → m.blames s i e → n.blames s i e
    pub may_run_out : (mode : Modes) (i : I) → m.may_run_out mode i → n.may_run_out mode i

  -- of two choices, if there are some
  abbrev IsWider : Choice I T E → Choice I U E → Type 0
  IsWider NoChoice NoChoice = Unit {0}
  IsWider NoChoice (Among n) = ⊥
  IsWider (Among m) NoChoice = ⊥
  IsWider (Among m) (Among n) = Covers m n

  module _ {Q : Type 0} (label : Q → T) where
    labelled_covers : (m : Meaning I Q E) → Covers (labelled_meaning label m) (labelled_meaning (λ v. put (label v)) m)
    labelled_covers m = record {
      answers = λ s i o h. record {
        at = h.at;
        at_is = h.at_is;
        outcome = h.outcome;
        answered = h.answered;
        fact = ap (labelled put) h.fact ∙ labelled_twice put label h.outcome;
      };
      blames = λ s i e h. h;
      may_run_out = λ mode i h. h;
    }

  module _ (Joins : E → E → E → Type 0) (Grows : Type 0) (a b : Meaning I T E) (c d : Meaning I U E) (p : Covers a c) (q : Covers b d) where
    goes_on : (s : Bool) (i : I) (first o : Outcome T) → GoesOnRefused (b.answers s i) first o →
        GoesOnRefused (d.answers s i) (labelled put first) (labelled put o)
    goes_on s i (Accept n v) o h = ap (labelled put) h
    goes_on s i Refuse o h = q.answers s i o h
    goes_on s i (Stop why) o h = ap (labelled put) h

    next_blames : (s : Bool) (i : I) (e : E) → NextBlames Joins b s i (a.blames s i) e → NextBlames Joins d s i (c.blames s i) e
    next_blames s i e (NextFails f) = NextFails (record {
      outcome = labelled put f.outcome;
      answered = q.answers s i f.outcome f.answered;
      kind_is = failure_kept put f.outcome f.kind_is;
      fact = q.blames s i e f.fact;
    })
    next_blames s i e (NextRefuses r j) = NextRefuses (q.answers s i Refuse r) (record {
      first = j.first;
      second = j.second;
      first_is = p.blames s i j.first j.first_is;
      second_is = q.blames s i j.second j.second_is;
      joined = j.joined;
    })

    or_blames : (s : Bool) (i : I) (e : E) → OrBlames Joins a b s i e → OrBlames Joins c d s i e
    or_blames s i e (FirstFails f) = FirstFails (record {
      outcome = labelled put f.outcome;
      answered = p.answers s i f.outcome f.answered;
      kind_is = failure_kept put f.outcome f.kind_is;
      fact = p.blames s i e f.fact;
    })
    or_blames s i e (FirstRefuses r n) = FirstRefuses (p.answers s i Refuse r) (next_blames s i e n)

    next_runs_out : (mode : Modes) (i : I) → NextRunsOut Grows b mode i → NextRunsOut Grows d mode i
    next_runs_out mode i (inl h) = inl (q.may_run_out mode i h)
    next_runs_out mode i (inr h) = inr (q.answers mode.streaming i Refuse h.0, h.1, h.2)

    or_runs_out : (mode : Modes) (i : I) → (or_meaning Joins Grows a b).may_run_out mode i → (or_meaning Joins Grows c d).may_run_out mode i
    or_runs_out mode i (inl h) = inl (p.may_run_out mode i h)
    or_runs_out mode i (inr h) = inr (p.answers mode.streaming i Refuse h.0, next_runs_out mode i h.1)

    or_covers : Covers (or_meaning Joins Grows a b) (or_meaning Joins Grows c d)
    or_covers = record {
      answers = λ s i o h. record {
        first = labelled put h.first;
        answered = p.answers s i h.first h.answered;
        goes_on = goes_on s i h.first o h.goes_on;
      };
      blames = or_blames;
      may_run_out = or_runs_out;
    }

  module _ {Q : Type 0} (Joins : E → E → E → Type 0) (Grows : Type 0) (m : Meaning I Q E) (label : Q → T) where
    waiting_wider : (o : Choice I T E) (p : Choice I U E) (x : Option Q) → IsWider o p →
        IsWider (or_waiting Joins Grows o m label x) (or_waiting Joins Grows p m (λ v. put (label v)) x)
    waiting_wider o p (Some v) h = h
    waiting_wider NoChoice NoChoice None h = labelled_covers label m
    waiting_wider NoChoice (Among n) None h = absurd h
    waiting_wider (Among a) NoChoice None h = absurd h
    waiting_wider (Among a) (Among c) None h =
        or_covers Joins Grows a (labelled_meaning label m) c (labelled_meaning (λ v. put (label v)) m) h (labelled_covers label m)

module _ {I T P E : Type 0} (Joins : E → E → E → Type 0) (Grows : Type 0) (t : T × P) where
  others_wider : (o : Choice I T E) (p : Choice I (T × P) E) (ms : List (Member I T E)) → IsWider (λ u. (u, t.1)) o p →
      IsWider (λ u. (u, t.1)) (or_members Joins Grows t.0 o ms) (or_others Joins Grows t p ms)
  others_wider o p [] h = h
  others_wider o p (x ∷ xs) h =
      others_wider (or_waiting Joins Grows o x.meaning (x.put t.0) (x.tree t.0))
      (or_waiting Joins Grows p x.meaning (λ v. (x.put t.0 v, t.1)) (x.tree t.0)) xs
      (waiting_wider (λ u. (u, t.1)) Joins Grows x.meaning (x.put t.0) o p (x.tree t.0) h)

where_refused : {I E F G : Type 0} → (F → G) → (r : Result I (Answer.Err E (Option E) Needed)) → WhereRefused F r → WhereRefused G r
where_refused f (Ok j) h = tt
where_refused f (Err (Incomplete k)) h = tt
where_refused f (Err (Error x)) h = f h
where_refused f (Err (Failure e)) h = tt
where_refused f (Err OutOfMemory) h = tt

module _ {I A T U E : Type 0} (w : Model I A) (mode : Modes) (i : I) (Held : T → Type 0) (Wide : U → Type 0) (put : T → U)
    (held : (v : T) → Held v → Wide (put v)) where
  wider_shown : (F : Outcome T → Type 0) (G : Outcome U → Type 0) (Q : E → Type 0) (S : Type 0) → ((o : Outcome T) → F o → G (labelled put o)) →
      (r : PResult I (Unit {0}) E) → ShowsAnswer w (λ v _. Held v) (with_outputs true mode) i F Q S r →
      ShowsAnswer w (λ v _. Wide v) (with_outputs true mode) i G Q S r
  wider_shown F G Q S f r (RanOut e h) = RanOut e h
  wider_shown F G Q S f r (Shown (Accept n v) a h) =
      Shown (Accept n (put v)) (f (Accept n v) a) (h.0, h.1, h.2, (h.3.0, h.3.1, held v h.3.2), h.4)
  wider_shown F G Q S f r (Shown Refuse a h) = Shown Refuse (f Refuse a) h
  wider_shown F G Q S f r (Shown (Stop why) a h) = Shown (Stop why) (f (Stop why) a) h

  wider_round : (m : Meaning I T E) (n : Meaning I U E) (r : Result I (Answer.Err E (Option E) Needed)) → Covers put m n → ShowsRound w mode i Held m r →
      ShowsRound w mode i Wide n r
  wider_round m n r c h =
      let s = mode.streaming in
      wider_shown (m.answers s i) (n.answers s i) (n.blames s i) (n.may_run_out mode i) (c.answers s i) (as_answer r)
      (shown_map w (λ v _. Held v) (with_outputs true mode) i (m.answers s i) (m.answers s i) (m.blames s i) (n.blames s i) (m.may_run_out mode i)
      (n.may_run_out mode i) (as_answer r) (λ o a. a) (c.blames s i) (c.may_run_out mode i) h)

  wider_tried : (t : T) (o : Choice I T E) (p : Choice I U E) (round : Option (Result I (Answer.Err E (Option E) Needed))) → IsWider put o p →
      HasTried w mode i Held t o round → HasTried w mode i Wide (put t) p round
  wider_tried t NoChoice NoChoice round c h = (h.0, held t h.1)
  wider_tried t NoChoice (Among n) round c h = absurd c
  wider_tried t (Among m) NoChoice round c h = absurd c
  wider_tried t (Among m) (Among n) round c h = (h.0, h.1, wider_round m n h.0 c h.2, where_refused (held t) h.0 h.3)

module _ {I A T P E : Type 0} (w : Model I A) (mode : Modes) (i : I) (Joins : E → E → E → Type 0) (Grows : Type 0) (Held : T → Type 0)
    (Wide : T × P → Type 0) (t : T × P) (held : (v : T) → Held v → Wide (v, t.1)) where
  -- what a round has tried of some members
  pub others_tried : (ms : List (Member I T E)) (round : Option (Result I (Answer.Err E (Option E) Needed))) →
      HasTried w mode i Held t.0 (or_members Joins Grows t.0 NoChoice ms) round →
      HasTried w mode i Wide t (or_others Joins Grows t NoChoice ms) round
  others_tried ms round h =
      wider_tried w mode i Held Wide (λ u. (u, t.1)) held t.0 (or_members Joins Grows t.0 NoChoice ms) (or_others Joins Grows t NoChoice ms) round
      (others_wider Joins Grows t NoChoice NoChoice ms tt) h
