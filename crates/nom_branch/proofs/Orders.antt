-- Lemmas on the rounds of a permutation: they accept what an order of the members accepts.
use Rattle.std.specs.Prelude.{◌≡◌, ℕ, ◌+◌, Bool, List, [], ◌∷◌, length, Option, Some, None, ◌⊎◌, refl}
use Rattle.std.proofs.Common.{arith, sym, ap, subst, inl, inr, zero, suc}
use Rattle.nom_internal.specs.Prelude.{Model, InputLaws, IsSuffixOf, Outcome, Accept, Refuse, Stop, Meaning, labelled, labelled_meaning, GoesOnRefused, GoesOn}
use Rattle.nom_internal.specs.Prelude.{after}
use Rattle.nom_branch.specs.Members.{Member, Choice, IsOver, or_waiting, or_members, tried}
use Rattle.nom_branch.specs.Members.Choice.{NoChoice, Among}
use Rattle.nom_branch.specs.Permutation.{round_meaning, rounds_meaning, permutation_meaning}
use Rattle.nom_branch.proofs.Turns.{over_answer}
use Rattle.nom_branch.specs.Order.{TakesTurn, AllApplied, InOrder}

-- a choice accepts, or it refuses, as one of no members does
abbrev ChoiceAccepts : {I T E : Type 0} → Bool → Choice I T E → I → ℕ → T → Type 0
ChoiceAccepts s NoChoice i n u = ⊥
ChoiceAccepts s (Among m) i n u = m.answers s i (Accept n u)

abbrev ChoiceRefuses : {I T E : Type 0} → Bool → Choice I T E → I → Type 0
ChoiceRefuses s NoChoice i = Unit {0}
ChoiceRefuses s (Among m) i = m.answers s i Refuse

module _ {I T P E : Type 0} (s : Bool) (m : Meaning I P E) (put : P → T) (i : I) where
  accept_of : (n : ℕ) (u : T) (j : I) (a : Outcome P) → i ≡ j → m.answers s j a → Accept n u ≡ labelled put a → (v : P) × m.answers s i (Accept n v) ×
      (u ≡ put v)
  accept_of n u j (Accept k v) e h q =
      let same : n ≡ k = cc (q) in
      (v, subst (λ z. m.answers s z (Accept n v)) (sym e) (subst (λ z. m.answers s j (Accept z v)) (sym same) h), cc (q))
  accept_of n u j Refuse e h q = absurd (cc (q))
  accept_of n u j (Stop why) e h q = absurd (cc (q))

  refuse_of : (j : I) (a : Outcome P) → i ≡ j → m.answers s j a → ◌≡◌ {A = Outcome T} Refuse (labelled put a) → m.answers s i Refuse
  refuse_of j (Accept k v) e h q = absurd (cc (q))
  refuse_of j Refuse e h q = subst (λ z. m.answers s z Refuse) (sym e) h
  refuse_of j (Stop why) e h q = absurd (cc (q))

-- how a choice of two decides
module _ {V : Type 0} (N : Outcome V → Type 0) where
  next_accepts : (a : Outcome V) (n : ℕ) (v : V) → GoesOnRefused N a (Accept n v) → (a ≡ Accept n v) ⊎ ((a ≡ Refuse) × N (Accept n v))
  next_accepts (Accept m u) n v h = inl (sym h)
  next_accepts Refuse n v h = inr (refl, h)
  next_accepts (Stop why) n v h = absurd (cc (h))

  next_refuses : (a : Outcome V) → GoesOnRefused N a Refuse → (a ≡ Refuse) × N Refuse
  next_refuses (Accept m u) h = absurd (cc (h))
  next_refuses Refuse h = (refl, h)
  next_refuses (Stop why) h = absurd (cc (h))

module _ {I T P E : Type 0} (s : Bool) (Joins : E → E → E → Type 0) (Grows : Type 0) (m : Meaning I P E) (put : P → T) (i : I) where
  -- one more member: the others accept, or refuse while it accepts
  waiting_accepts : (o : Choice I T E) (x : Option P) (n : ℕ) (u : T) → ChoiceAccepts s (or_waiting Joins Grows o m put x) i n u →
      ChoiceAccepts s o i n u ⊎ (ChoiceRefuses s o i × (x ≡ None) × (v : P) × m.answers s i (Accept n v) × (u ≡ put v))
  waiting_accepts o (Some v) n u h = inl h
  waiting_accepts NoChoice None n u h = let a = accept_of s m put i n u h.at h.outcome h.at_is h.answered h.fact in inr (tt, refl, a.0, a.1, a.2)
  waiting_accepts (Among k) None n u h =
      elim (next_accepts ((labelled_meaning put m).answers s i) h.first n u h.goes_on) as (λ _. ChoiceAccepts s (Among k) i n u ⊎
      (ChoiceRefuses s (Among k) i × (◌≡◌ {A = Option P} None None) × (v : P) × m.answers s i (Accept n v) × (u ≡ put v))) [
        | inl e ↦ inl (subst (λ z. k.answers s i z) e h.answered)
        | inr f ↦ let a = accept_of s m put i n u f.1.at f.1.outcome f.1.at_is f.1.answered f.1.fact in
            inr (subst (λ z. k.answers s i z) f.0 h.answered, refl, a.0, a.1, a.2)
      ]

  waiting_refuses : (o : Choice I T E) (x : Option P) → ChoiceRefuses s (or_waiting Joins Grows o m put x) i → ChoiceRefuses s o i ×
      (x ≡ None → m.answers s i Refuse)
  waiting_refuses o (Some v) h = (h, λ e. absurd (cc (e)))
  waiting_refuses NoChoice None h = (tt, λ _. refuse_of s m put i h.at h.outcome h.at_is h.answered h.fact)
  waiting_refuses (Among k) None h =
      let f = next_refuses ((labelled_meaning put m).answers s i) h.first h.goes_on in
      (subst (λ z. k.answers s i z) f.0 h.answered, λ _. refuse_of s m put i f.1.at f.1.outcome f.1.at_is f.1.answered f.1.fact)

module _ {I T E : Type 0} (s : Bool) (Joins : E → E → E → Type 0) (Grows : Type 0) (t : T) (i : I) (n : ℕ) (u : T) where
  -- where the members after some others accept, either those do, or they refuse and it is the turn of a member
  members_turn : (o : Choice I T E) (ms : List (Member I T E)) → ChoiceAccepts s (or_members Joins Grows t o ms) i n u → ChoiceAccepts s o i n u ⊎
      (ChoiceRefuses s o i × TakesTurn s ms t i n u)
  members_turn o [] h = inl h
  members_turn o (m ∷ ms) h = elim (members_turn (or_waiting Joins Grows o m.meaning (m.put t) (m.tree t)) ms h) as
      (λ _. ChoiceAccepts s o i n u ⊎ (ChoiceRefuses s o i × TakesTurn s (m ∷ ms) t i n u)) [
        | inl a ↦ elim (waiting_accepts s Joins Grows m.meaning (m.put t) i o (m.tree t) n u a) as
            (λ _. ChoiceAccepts s o i n u ⊎ (ChoiceRefuses s o i × TakesTurn s (m ∷ ms) t i n u)) [
              | inl b ↦ inl b
              | inr b ↦ inr (b.0, inl (record { waits = b.1; tree = b.2; accepted = b.3; put = b.4 }))
            ]
        | inr r ↦ let f = waiting_refuses s Joins Grows m.meaning (m.put t) i o (m.tree t) r.0 in inr (f.0, inr (f.1, r.1))
      ]

module _ {I T P E : Type 0} (Joins : E → E → E → Type 0) (Grows : Type 0) (m : Meaning I P E) (put : P → T) where
  waiting_over : (o : Choice I T E) (x : Option P) → IsOver (or_waiting Joins Grows o m put x) → IsOver o × (x ≡ None → ⊥)
  waiting_over o (Some v) h = (h, λ e. absurd (cc (e)))
  waiting_over NoChoice None h = absurd h
  waiting_over (Among k) None h = absurd h

-- where no choice is left, all are applied
members_over : {I T E : Type 0} (Joins : E → E → E → Type 0) (Grows : Type 0) (t : T) (o : Choice I T E) (ms : List (Member I T E)) →
    IsOver (or_members Joins Grows t o ms) → IsOver o × AllApplied ms t
members_over Joins Grows t o [] h = (h, tt)
members_over Joins Grows t o (m ∷ ms) h =
    let r = members_over Joins Grows t (or_waiting Joins Grows o m.meaning (m.put t) (m.tree t)) ms h in
    let f = waiting_over Joins Grows m.meaning (m.put t) o (m.tree t) r.0 in
    (f.0, (f.1, r.1))

-- a round accepts what the choice does, and of none nothing
round_accepts : {I T E : Type 0} (Closes : I → E → E → Type 0) (Grows : Type 0) (s : Bool) (t : T) (o : Choice I T E) (i : I) (n : ℕ) (u : T) →
    (round_meaning Closes Grows t o).answers s i (Accept n u) → (IsOver o × (n ≡ 0) × (u ≡ t)) ⊎ ChoiceAccepts s o i n u
round_accepts Closes Grows s t NoChoice i n u h = inl (tt, cc (h), cc (h))
round_accepts Closes Grows s t (Among m) i n u h =
    inr (subst (λ z. m.answers s z (Accept n u)) (sym h.at_is) (subst (λ z. m.answers s h.at z) (sym h.fact) h.answered))

-- how a round's outcome goes on, where the whole accepts
module _ {I A T : Type 0} (w : Model I A) (Next : T → I → Outcome T → Type 0) (i : I) (n : ℕ) (u : T) where
  pub record GoesOnFrom (a : Outcome T) : Type 0 where
    pub length : ℕ
    pub trees : T
    pub is : a ≡ Accept length trees
    pub rest : I
    pub rest_is : IsSuffixOf w i length rest
    pub more : ℕ
    pub next : Next trees rest (Accept more u)
    pub lengths : n ≡ length + more

  after_next : (k : ℕ) (v : T) (j : I) (p : Outcome T) → IsSuffixOf w i k j → Next v j p → Accept n u ≡ after k (λ t. t) p → GoesOnFrom (Accept k v)
  after_next k v j (Accept m t) r h e =
      let same : u ≡ t = cc (e) in
      record { length = k; trees = v; is = refl; rest = j; rest_is = r; more = m; next = subst (λ z. Next v j (Accept m z)) (sym same) h; lengths = cc (e) }
  after_next k v j Refuse r h e = absurd (cc (e))
  after_next k v j (Stop why) r h e = absurd (cc (e))

  goes_on_from : (a : Outcome T) → GoesOn w (λ _ t. t) Next i a (Accept n u) → GoesOnFrom a
  goes_on_from (Accept k v) h = after_next k v h.0 h.1 h.2 h.3 h.4
  goes_on_from Refuse h = absurd (cc (h))
  goes_on_from (Stop why) h = absurd (cc (h))

module _ {I A T E : Type 0} (w : Model I A) (Joins : E → E → E → Type 0) (Closes : I → E → E → Type 0) (Grows : Type 0) (ms : List (Member I T E))
    (s : Bool) where
  -- once all are applied, nothing more is accepted
  over_accepts : (k : ℕ) (t : T) (i : I) (n : ℕ) (u : T) → IsOver (tried Joins Grows ms t) →
      (rounds_meaning w Joins Closes Grows ms k t).answers s i (Accept n u) → (n ≡ 0) × (u ≡ t)
  over_accepts zero t i n u o h = (cc (h), cc (h))
  over_accepts (suc k) t i n u o h =
      let g = goes_on_from w (λ v. (rounds_meaning w Joins Closes Grows ms k v).answers s) i n u h.first h.goes_on in
      let first = over_round (tried Joins Grows ms t) t i g.length g.trees o
      (subst (λ z. (round_meaning Closes Grows t (tried Joins Grows ms t)).answers s i z) g.is h.answered) in
      let r = over_accepts k t g.rest g.more u o
      (subst (λ v. (rounds_meaning w Joins Closes Grows ms k v).answers s g.rest (Accept g.more u)) first.1 g.next) in
      (omega (arith, g.lengths, first.0, r.0), r.1)
    where
      over_round : (o : Choice I T E) (t : T) (i : I) (n : ℕ) (u : T) → IsOver o → (round_meaning Closes Grows t o).answers s i (Accept n u) → (n ≡ 0) × (u ≡ t)
      over_round NoChoice t i n u o h = (cc (h), cc (h))
      over_round (Among m) t i n u o h = absurd o

  -- what the rounds accept, an order of the members accepts
  rounds_in_order : (k : ℕ) (t : T) (i : I) (n : ℕ) (u : T) → (rounds_meaning w Joins Closes Grows ms k t).answers s i (Accept n u) → InOrder w s ms u k t i n
  rounds_in_order zero t i n u h = (cc (h), cc (h))
  rounds_in_order (suc k) t i n u h =
      let g = goes_on_from w (λ v. (rounds_meaning w Joins Closes Grows ms k v).answers s) i n u h.first h.goes_on in
      elim (round_accepts Closes Grows s t (tried Joins Grows ms t) i g.length g.trees
      (subst (λ z. (round_meaning Closes Grows t (tried Joins Grows ms t)).answers s i z) g.is h.answered)) as (λ _. InOrder w s ms u (suc k) t i n) [
        | inl o ↦ let r = over_accepts (suc k) t i n u o.0 h in inl ((members_over Joins Grows t NoChoice ms o.0).1, r.0, r.1)
        | inr a ↦ elim (members_turn s Joins Grows t i g.length g.trees NoChoice ms a) as (λ _. InOrder w s ms u (suc k) t i n) [
          | inl b ↦ absurd b
          | inr b ↦ inr (record {
            length = g.length;
            trees = g.trees;
            rest = g.rest;
            turn = b.1;
            rest_is = g.rest_is;
            more = g.more;
            others =
                rounds_in_order k g.trees g.rest g.more u g.next;
            lengths = g.lengths;
          })
        ]
      ]

  -- what a permutation accepts, an order of its members accepts
  pub permutation_in_order : (none : T) (i : I) (n : ℕ) (u : T) → (permutation_meaning w Joins Closes Grows ms none).answers s i (Accept n u) →
      InOrder w s ms u (length ms) none i n
  permutation_in_order none i n u h = rounds_in_order (length ms) none i n u h

-- and the other way
module _ {I T P E : Type 0} (s : Bool) (Joins : E → E → E → Type 0) (Grows : Type 0) (m : Meaning I P E) (put : P → T) (i : I) where
  accept_to : (n : ℕ) (u : T) (v : P) → m.answers s i (Accept n v) → u ≡ put v → (labelled_meaning put m).answers s i (Accept n u)
  accept_to n u v h e = record { at = i; at_is = refl; outcome = Accept n v; answered = h; fact = ap (λ z. Accept n z) e }

  waiting_accepted : (o : Choice I T E) (x : Option P) (n : ℕ) (u : T) → ChoiceAccepts s o i n u ⊎
      (ChoiceRefuses s o i × (x ≡ None) × (v : P) × m.answers s i (Accept n v) × (u ≡ put v)) → ChoiceAccepts s (or_waiting Joins Grows o m put x) i n u
  waiting_accepted o (Some v) n u (inl a) = a
  waiting_accepted o (Some v) n u (inr r) = absurd (cc (r.1))
  waiting_accepted NoChoice None n u (inl a) = absurd a
  waiting_accepted NoChoice None n u (inr r) = accept_to n u r.2 r.3 r.4
  waiting_accepted (Among k) None n u (inl a) = record { first = Accept n u; answered = a; goes_on = refl }
  waiting_accepted (Among k) None n u (inr r) = record { first = Refuse; answered = r.0; goes_on = accept_to n u r.2 r.3 r.4 }

  waiting_refused : (o : Choice I T E) (x : Option P) → ChoiceRefuses s o i → (x ≡ None → m.answers s i Refuse) →
      ChoiceRefuses s (or_waiting Joins Grows o m put x) i
  waiting_refused o (Some v) h f = h
  waiting_refused NoChoice None h f = record { at = i; at_is = refl; outcome = Refuse; answered = f refl; fact = refl }
  waiting_refused (Among k) None h f =
      record { first = Refuse; answered = h; goes_on = record { at = i; at_is = refl; outcome = Refuse; answered = f refl; fact = refl } }

module _ {I T E : Type 0} (s : Bool) (Joins : E → E → E → Type 0) (Grows : Type 0) (t : T) (i : I) (n : ℕ) (u : T) where
  turn_members : (o : Choice I T E) (ms : List (Member I T E)) → ChoiceAccepts s o i n u ⊎ (ChoiceRefuses s o i × TakesTurn s ms t i n u) →
      ChoiceAccepts s (or_members Joins Grows t o ms) i n u
  turn_members o [] (inl a) = a
  turn_members o [] (inr r) = absurd r.1
  turn_members o (m ∷ ms) (inl a) =
      turn_members (or_waiting Joins Grows o m.meaning (m.put t) (m.tree t)) ms
      (inl (waiting_accepted s Joins Grows m.meaning (m.put t) i o (m.tree t) n u (inl a)))
  turn_members o (m ∷ ms) (inr (r, inl a)) =
      turn_members (or_waiting Joins Grows o m.meaning (m.put t) (m.tree t)) ms
      (inl (waiting_accepted s Joins Grows m.meaning (m.put t) i o (m.tree t) n u (inr (r, a.waits, a.tree, a.accepted, a.put))))
  turn_members o (m ∷ ms) (inr (r, inr f)) =
      turn_members (or_waiting Joins Grows o m.meaning (m.put t) (m.tree t)) ms
      (inr (waiting_refused s Joins Grows m.meaning (m.put t) i o (m.tree t) r f.0, f.1))

applied_waiting : {I T P E : Type 0} (Joins : E → E → E → Type 0) (Grows : Type 0) (m : Meaning I P E) (put : P → T) (o : Choice I T E) (x : Option P) →
    IsOver o → (x ≡ None → ⊥) → IsOver (or_waiting Joins Grows o m put x)
applied_waiting Joins Grows m put o (Some v) h f = h
applied_waiting Joins Grows m put o None h f = absurd (f refl)

applied_over : {I T E : Type 0} (Joins : E → E → E → Type 0) (Grows : Type 0) (t : T) (o : Choice I T E) (ms : List (Member I T E)) → IsOver o →
    AllApplied ms t → IsOver (or_members Joins Grows t o ms)
applied_over Joins Grows t o [] h a = h
applied_over Joins Grows t o (m ∷ ms) h a =
    applied_over Joins Grows t (or_waiting Joins Grows o m.meaning (m.put t) (m.tree t)) ms
    (applied_waiting Joins Grows m.meaning (m.put t) o (m.tree t) h a.0) a.1

round_accepted : {I T E : Type 0} (Closes : I → E → E → Type 0) (Grows : Type 0) (s : Bool) (t : T) (o : Choice I T E) (i : I) (n : ℕ) (u : T) →
    ChoiceAccepts s o i n u → (round_meaning Closes Grows t o).answers s i (Accept n u)
round_accepted Closes Grows s t NoChoice i n u h = absurd h
round_accepted Closes Grows s t (Among m) i n u h = record { at = i; at_is = refl; outcome = Accept n u; answered = h; fact = refl }

module _ {I A T E : Type 0} (w : Model I A) (l : InputLaws w) (Joins : E → E → E → Type 0) (Closes : I → E → E → Type 0) (Grows : Type 0)
    (ms : List (Member I T E)) (s : Bool) where
  order_in_rounds : (k : ℕ) (t : T) (i : I) (n : ℕ) (u : T) → w.IsKnown i → InOrder w s ms u k t i n →
      (rounds_meaning w Joins Closes Grows ms k t).answers s i (Accept n u)
  order_in_rounds zero t i n u h r = cc (r.0, r.1)
  order_in_rounds (suc k) t i n u h (inl r) =
      let done = over_answer w l Joins Closes Grows ms s (suc k) t i h (applied_over Joins Grows t NoChoice ms tt r.0) in
      subst (λ z. (rounds_meaning w Joins Closes Grows ms (suc k) t).answers s i (Accept n z)) (sym r.2)
      (subst (λ z. (rounds_meaning w Joins Closes Grows ms (suc k) t).answers s i (Accept z t)) (sym r.1) done)
  order_in_rounds (suc k) t i n u h (inr r) = record {
    first = Accept r.length r.trees;
    answered = round_accepted Closes Grows s t (tried Joins Grows ms t) i r.length r.trees
        (turn_members s Joins Grows t i r.length r.trees NoChoice ms (inr (tt, r.turn)));
    goes_on = (r.rest, Accept r.more u, r.rest_is, order_in_rounds k r.trees r.rest r.more u r.rest_is.known r.others, ap (λ z. Accept z u) r.lengths);
  }

  -- what an order of the members accepts, a permutation accepts
  pub order_in_permutation : (none : T) (i : I) (n : ℕ) (u : T) → w.IsKnown i → InOrder w s ms u (length ms) none i n →
      (permutation_meaning w Joins Closes Grows ms none).answers s i (Accept n u)
  order_in_permutation none i n u h r = order_in_rounds (length ms) none i n u h r
