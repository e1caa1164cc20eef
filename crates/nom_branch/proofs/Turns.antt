-- How a permutation runs its rounds.
use Rattle.std.specs.Prelude.{◌≡◌, ℕ, Bool, true, List, [], Result, Ok, Err, Option, Some, None, refl}
use Rattle.std.proofs.Common.{sym, ◌∙◌, ap, subst, zero, suc}
use Rattle.nom_internal.specs.Prelude.{PResult, Needed, Incomplete, Error, Failure, OutOfMemory, Model, InputLaws, IsSuffixOf, Built, modes, Accept, Shown}
use Rattle.nom_internal.specs.Prelude.{Errors, Meaning, ShowsMeaning, closed_meaning, OnError, ClosesError, ClosesResult}
use Rattle.nom_error.specs.declared.answer.Err as Answer
use Rattle.nom_error.specs.declared.kind.ErrorKind.TheVariants as Kind
use Rattle.nom_branch.specs.Members.{Member, Choice, IsOver, tried}
use Rattle.nom_branch.specs.Members.Choice.{NoChoice, Among}
use Rattle.nom_branch.specs.Rounds.{applies, as_answer, ShowsRound, HasTried}
use Rattle.nom_branch.proofs.Places.{fixed}
use Rattle.nom_branch.specs.Permutation.{round_meaning, rounds_meaning}
use Rattle.nom_internal.proofs.Choices.{closed_shown}
use Rattle.nom_internal.proofs.Shown.{accepts, then_err, next_shown}

module _ {I A T E : Type 0} (w : Model I A) (Closes : I → E → E → Type 0) (Grows : Type 0) (outputs errors s : Bool) (i : I) (Held : T → Type 0) where
  close_shown : (m : Meaning I T E) (r closed : Result I (Answer.Err E (Option E) Needed)) → ShowsRound w (modes outputs errors s) i Held m r →
      ClosesResult (Closes i) Grows r closed → ShowsRound w (modes outputs errors s) i Held (closed_meaning Closes Grows m) closed
  close_shown m r closed h g =
      closed_shown w (λ t _. Held t) (modes true errors s) i (fixed outputs m) Closes Grows (as_answer r) (as_answer closed) h (answered r g)
    where
      answered : (r : Result I (Answer.Err E (Option E) Needed)) → ClosesResult (Closes i) Grows r closed →
          ClosesResult {T = I × Option (Unit {0})} (Closes i) Grows (as_answer r) (as_answer closed)
      answered (Ok j) g = ap as_answer g
      answered (Err (Incomplete k)) g = ap as_answer g
      answered (Err (Error x)) g = (g.0, g.1, ap as_answer g.2)
      answered (Err (Failure e)) g = ap as_answer g
      answered (Err OutOfMemory) g = ap as_answer g

  -- what a round that tried some member shows
  round_shown : (t : T) (o : Choice I T E) (round : Option (Result I (Answer.Err E (Option E) Needed)))
      (r closed : Result I (Answer.Err E (Option E) Needed)) → round ≡ Some r → HasTried w (modes outputs errors s) i Held t o round →
      ClosesResult (Closes i) Grows r closed → ShowsRound w (modes outputs errors s) i Held (round_meaning Closes Grows t o) closed
  round_shown t NoChoice round r closed e h g = cc (e, h.0)
  round_shown t (Among m) round r closed e h g =
      let same : h.0 ≡ r = cc (e, h.1) in
      close_shown m r closed (subst (λ z. ShowsRound w (modes outputs errors s) i Held m z) same h.2) g

module _ {I A T E : Type 0} (w : Model I A) (outputs errors s : Bool) (i : I) (Held : T → Type 0) (t : T) where
  tried_none : (o : Choice I T E) (round : Option (Result I (Answer.Err E (Option E) Needed))) → round ≡ None →
      HasTried w (modes outputs errors s) i Held t o round → IsOver o × Held t
  tried_none NoChoice round e h = (tt, h.1)
  tried_none (Among m) round e h = cc (e, h.1)

  tried_some : (o : Choice I T E) (round : Option (Result I (Answer.Err E (Option E) Needed))) (r : Result I (Answer.Err E (Option E) Needed)) →
      round ≡ Some r → HasTried w (modes outputs errors s) i Held t o round → IsOver o → ⊥
  tried_some NoChoice round r e h k = cc (e, h.0)
  tried_some (Among m) round r e h k = k

-- a round's answer that is closed as an acceptance is one
closed_applies : {I E : Type 0} (Q : Option E → Answer.Err E (Option E) Needed → Type 0) (j : I)
    (r closed : Result I (Answer.Err E (Option E) Needed)) → closed ≡ Ok j →
    OnError (λ x z. (f : Answer.Err E (Option E) Needed) × Q x f × (z ≡ Err f)) r closed → applies (Some r) ≡ 1
closed_applies Q j (Ok k) closed e h = refl
closed_applies Q j (Err (Incomplete k)) closed e h = cc (e, h)
closed_applies Q j (Err (Error x)) closed e h = cc (e, h.2)
closed_applies Q j (Err (Failure x)) closed e h = cc (e, h)
closed_applies Q j (Err OutOfMemory) closed e h = cc (e, h)

rest_none : {I A : Type 0} (w : Model I A) (l : InputLaws w) (j : I) → w.IsKnown j → IsSuffixOf w j 0 j
rest_none w l j k = record { known = k; front = []; whole = refl; length_is = refl; mark_is = sym (l.mark_none (w.mark j)) }

module _ {I A T E : Type 0} (w : Model I A) (l : InputLaws w) (Joins : E → E → E → Type 0) (Closes : I → E → E → Type 0) (Grows : Type 0)
    (ms : List (Member I T E)) (s : Bool) where
  over_round : (t : T) (o : Choice I T E) (j : I) → IsOver o → (round_meaning Closes Grows t o).answers s j (Accept 0 t)
  over_round t NoChoice j h = refl
  over_round t (Among m) j h = absurd h

  pub over_answer : (n : ℕ) (t : T) (j : I) → w.IsKnown j → IsOver (tried Joins Grows ms t) →
      (rounds_meaning w Joins Closes Grows ms n t).answers s j (Accept 0 t)
  over_answer zero t j k h = refl
  over_answer (suc n) t j k h = record {
    first = Accept 0 t;
    answered = over_round t (tried Joins Grows ms t) j h;
    goes_on =
        (j, Accept 0 t, rest_none w l j k, over_answer n t j k h, refl);
  }

module _ {I A T O E : Type 0} (w : Model I A) (e : Errors I E) (ms : List (Member I T E)) (IsOutput : T → O → Type 0) (outputs errors s : Bool) where
  -- what n rounds after the trees t show
  abbrev pub ShowsRounds : ℕ → T → I → PResult I O E → Type 0
  ShowsRounds n t i r = ShowsMeaning w IsOutput (rounds_meaning w e.joined (λ i. e.appended i Kind.Permutation) e.grows ms n t) (modes outputs errors s) i r

  -- a round after the trees t, and what it answers
  pub record IsRound (i : I) (Held : T → Type 0) (t : T) (round : Option (Result I (Answer.Err E (Option E) Needed))) : Type 0 where
    pub shown : HasTried w (modes outputs errors s) i Held t (tried e.joined e.grows ms t) round

module _ {I A T O E : Type 0} {w : Model I A} {e : Errors I E} {ms : List (Member I T E)} {IsOutput : T → O → Type 0} {outputs errors s : Bool} {i : I}
    {Held : T → Type 0} {t : T} {round : Option (Result I (Answer.Err E (Option E) Needed))} (a : IsRound w e ms IsOutput outputs errors s i Held t round) where
  abbrev Rounds : ℕ → T → I → PResult I O E → Type 0
  Rounds n t i r = ShowsRounds w e ms IsOutput outputs errors s n t i r

  abbrev choice : Choice I T E
  choice = tried e.joined e.grows ms t

  abbrev this_round : Meaning I T E
  this_round = round_meaning (λ i. e.appended i Kind.Permutation) e.grows t choice

  -- a round that tried none
  pub round_over : round ≡ None → IsOver choice × Held t
  round_over is = tried_none w outputs errors s i Held t choice round is a.shown

  -- once every member is applied, the rounds accept where they stand
  pub rounds_over : InputLaws w → (n : ℕ) {b : Option O} → w.IsKnown i → IsOver choice → Built outputs (IsOutput t) b → Rounds n t i (Ok (i, b))
  rounds_over l n {b} k h g =
      Shown (Accept 0 t) (over_answer w l e.joined (λ i. e.appended i Kind.Permutation) e.grows ms s n t i k h) (i, b, rest_none w l i k, g, refl)

  -- a round that tried some member, and its answer as it is closed
  module _ {r closed : Result I (Answer.Err E (Option E) Needed)} (is : round ≡ Some r)
      (h : ClosesResult (e.appended i Kind.Permutation) e.grows r closed) where
    shown_closed : {f : Result I (Answer.Err E (Option E) Needed)} → closed ≡ f → ShowsRound w (modes outputs errors s) i Held this_round f
    shown_closed q = subst (λ z. ShowsRound w (modes outputs errors s) i Held this_round z) q
        (round_shown w (λ i. e.appended i Kind.Permutation) e.grows outputs errors s i Held t choice round r closed is a.shown h)

    -- it applied one
    pub round_applies : {j : I} → closed ≡ Ok j → applies round ≡ 1
    round_applies {j} q = ap applies is ∙ closed_applies (ClosesError (e.appended i Kind.Permutation) e.grows) j r closed q h

    -- it accepts: what the rounds after it show, they show with it
    pub rounds_more : InputLaws w → {n m : ℕ} {j : I} → closed ≡ Ok j → n ≡ suc m → w.IsKnown j × (u : T) × Held u ×
        ((r : PResult I O E) → Rounds m u j r → Rounds n t i r)
    rounds_more l {n} {m} {j} q fewer =
        let next = rounds_meaning w e.joined (λ i. e.appended i Kind.Permutation) e.grows ms m in
        let c = accepts {w = w} {IsOutput = λ u _. Held u} {mode = modes true errors s} {i = i} {Answers = this_round.answers s i}
        {IsError = this_round.blames s i} (shown_closed q) in (
          c.rest_is.known,
          c.tree,
          c.built_is.2,
          λ r k. subst (λ z. Rounds z t i r) (sym fewer) (next_shown w l (λ _ u. u) (this_round.answers s) (this_round.blames s)
              (this_round.may_run_out (modes outputs errors s)) (λ u. (next u).answers s) (λ u. (next u).blames s)
              (λ u. (next u).may_run_out (modes outputs errors s)) IsOutput (modes outputs errors s) i j c.length c.tree c.answered c.rest_is r k),
        )

    -- it doesn't accept, and ends them
    pub rounds_end : InputLaws w → (n : ℕ) {f : Answer.Err E (Option E) Needed} → closed ≡ Err f → (n ≡ 0 → IsOver choice) → Rounds n t i (Err f)
    rounds_end l zero q o = absurd (tried_some w outputs errors s i Held t choice round r is a.shown (o refl))
    rounds_end l (suc n) {f} q o = then_err l {built = true} {mode = modes outputs errors s} {r = Err f} (shown_closed q) (refl, refl)
