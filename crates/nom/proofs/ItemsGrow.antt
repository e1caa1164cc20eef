-- Where items within limits run out of memory, and what is accepted where they are.
use Rattle.std.proofs.Common.{◌≡◌, ℕ, ◌+◌, Bool, true, false, Option, Some, None, ◌⊎◌, inl, inr, List, [], ◌∷◌, zero, suc, lit<, subst}
use Rattle.std.specs.Prelude.{ltb}
use Rattle.nom_internal.specs.Prelude.{Errors, Modes, modes, ErrorKind, Model, Outcome, Accept, Refuse, Stop, Meaning, IsLawful, after}
use Rattle.nom_repeat.specs.Repeat.{IsBelow, OnReply, Pieces, Replies, TurnsBy}
use Rattle.nom_repeat.specs.Repeat.Turn.{Takes, Ends}
use Rattle.nom_repeat.specs.Items.{item_turn, refused_turn, item_errors, EmptyAsks, ItemAsks, items_meaning}
use Rattle.nom_repeat.specs.declared.items.Limits.{Limits}
use Rattle.nom_repeat.specs.declared.items.TooFew.{TooFew}
use Rattle.nom_repeat.specs.Bounds.{one_limits}
use Rattle.nom.specs.Growths.{AlwaysFrugal, IsAccepted}

refused_takes_none : {V : Type 0} (few : Bool) (a : ℕ) (v : V) → Takes a v ≡ refused_turn few → ⊥
refused_takes_none true a v e = absurd (cc (e))
refused_takes_none false a v e = absurd (cc (e))

module _ {I V : Type 0} (b : Limits) (Item : I → Outcome V → Type 0) where
  -- an item that is taken is accepted
  taken_by : (k : ℕ) (i : I) (a : ℕ) (v : V) (reply : Option (Outcome V)) → Replies b.most (λ _. Item) k i reply → Takes a v ≡ item_turn b k reply →
      IsAccepted Item i
  taken_by k i a v (Some (Accept n u)) h e = (n, u, h.1)
  taken_by k i a v (Some Refuse) h e = absurd (refused_takes_none (ltb k b.least) a v e)
  taken_by k i a v (Some (Stop why)) h e = absurd (cc (e))
  taken_by k i a v None h e = absurd (cc (e))

  pub taken_accepted : (k : ℕ) (i : I) (a : ℕ) (v : V) → TurnsBy b.most (item_turn b) (λ _. Item) k i (Takes a v) → IsAccepted Item i
  taken_accepted k i a v t = taken_by k i a v t.reply t.replied t.fact

module _ {I A V E : Type 0} (w : Model I A) (errs : Errors I E) (b : Limits) (Grows : Type 0) (m : Meaning I V E) (lawful : IsLawful w m)
    (frugal : AlwaysFrugal m) (no : errs.grows → ⊥) (mode : Modes) where
  abbrev Refused : Type 0
  Refused = (mode.errors ≡ true) × errs.grows

  abbrev Accumulated : Type 0
  Accumulated = (mode.outputs ≡ true) × Grows

  abbrev Asked : ℕ → I → Type 0
  Asked k j = OnReply b.most (λ _. m.answers mode.streaming) (ItemAsks b Refused Accumulated k) k j ⊎
      (IsBelow b.most k × m.may_run_out (modes mode.outputs (item_errors b.too_few mode.errors) mode.streaming) j)

  empty_kept : (kind : Option ErrorKind) → EmptyAsks kind Refused Accumulated → Accumulated
  empty_kept (Some k) h = absurd (no h.1)
  empty_kept None h = h

  asked_by : (k : ℕ) (j : I) (reply : Option (Outcome V)) → Replies b.most (λ _. m.answers mode.streaming) k j reply → ItemAsks b Refused Accumulated k reply →
      Accumulated × IsAccepted (m.answers mode.streaming) j
  asked_by k j (Some (Accept zero v)) h q = (empty_kept b.empty q, (0, v, h.1))
  asked_by k j (Some (Accept (suc n) v)) h q = (q, (suc n, v, h.1))
  asked_by k j (Some Refuse) h q = absurd (no q.2.1)
  asked_by k j (Some (Stop why)) h q = absurd q
  asked_by k j None h q = absurd q

  asked : (k : ℕ) (j : I) → w.IsKnown j → Asked k j → Accumulated × IsAccepted (m.answers mode.streaming) j
  asked k j h (inl r) = asked_by k j r.reply r.replied r.fact
  asked k j h (inr r) = absurd (lawful.frugal (modes mode.outputs (item_errors b.too_few mode.errors) mode.streaming) j h
      (frugal (modes mode.outputs (item_errors b.too_few mode.errors) mode.streaming)) r.1)

  walked : (k : ℕ) (i : I) (vs : List V) (n : ℕ) → w.IsKnown i → Pieces w (TurnsBy b.most (item_turn b) (λ _. m.answers mode.streaming)) Asked k i vs n
      → Accumulated × IsAccepted (m.answers mode.streaming) i
  walked k i [] n h p = asked k i h p.1
  walked k i (v ∷ vs) n h p = ((walked (k + 1) p.2 vs p.1 p.4.known p.5).0, taken_accepted b (m.answers mode.streaming) k i p.0 v p.3)

  -- items run out of memory only to keep one, and then the first is accepted
  pub items_grow : (i : I) → w.IsKnown i → (items_meaning w errs b Grows m).may_run_out mode i → Accumulated × IsAccepted (m.answers mode.streaming) i
  items_grow i h r = walked 0 i r.trees r.taken h r.pieces

-- What is accepted where items are.
module _ {I A V E : Type 0} (w : Model I A) (errs : Errors I E) (b : Limits) (Grows : Type 0) (m : Meaning I V E) (s : Bool) (i : I) where
  no_items : (n : ℕ) (v : V) (us : List V) (taken : ℕ) (ending : Outcome (Unit {0})) → Accept n (v ∷ us) ≡ after taken (λ _. []) ending → ⊥
  no_items n v us taken (Accept k t) e = absurd (cc (e))
  no_items n v us taken Refuse e = absurd (cc (e))
  no_items n v us taken (Stop why) e = absurd (cc (e))

  some_by : (n : ℕ) (v : V) (us trees : List V) (taken : ℕ) (ending : Outcome (Unit {0})) →
      Pieces w (TurnsBy b.most (item_turn b) (λ _. m.answers s)) (λ k j. TurnsBy b.most (item_turn b) (λ _. m.answers s) k j (Ends ending)) 0 i trees taken →
      Accept n (v ∷ us) ≡ after taken (λ _. trees) ending → IsAccepted (m.answers s) i
  some_by n v us [] taken ending p e = absurd (no_items n v us taken ending e)
  some_by n v us (t ∷ ts) taken ending p e = taken_accepted b (m.answers s) 0 i p.0 t p.3

  -- where some are, the first is accepted
  pub some_accepted : (n : ℕ) (v : V) (us : List V) → (items_meaning w errs b Grows m).answers s i (Accept n (v ∷ us)) → IsAccepted (m.answers s) i
  some_accepted n v us r = some_by n v us r.trees r.taken r.ending r.pieces r.outcome_is

module _ {I A V E : Type 0} (w : Model I A) (errs : Errors I E) (few : TooFew) (at_start : Bool) (Grows : Type 0) (m : Meaning I V E) (s : Bool) (i : I) where
  not_ended : {T : Type 0} (n : ℕ) (vs : T) (taken : ℕ) (tree : Unit {0} → T) (ending other : Outcome (Unit {0})) → ending ≡ other →
      (Accept n vs ≡ after taken tree other → ⊥) → Accept n vs ≡ after taken tree ending → ⊥
  not_ended {T} n vs taken tree ending other same never e = never (subst (λ z. ◌≡◌ {A = Outcome T} (Accept n vs) (after taken tree z)) same e)

  unended : (n : ℕ) (vs : List V) (taken : ℕ) (ending : Outcome (Unit {0})) (reply : Option (Outcome V)) → Replies (Some 1) (λ _. m.answers s) 0 i reply →
      Ends ending ≡ item_turn (one_limits few at_start) 0 reply → Accept n vs ≡ after taken (λ _. []) ending → ⊥
  unended n vs taken ending (Some (Accept zero v)) h e q = absurd (cc (e))
  unended n vs taken ending (Some (Accept (suc k) v)) h e q = absurd (cc (e))
  unended n vs taken ending (Some Refuse) h e q = not_ended n vs taken (λ _. []) ending Refuse (cc (e)) (λ z. absurd (cc (z))) q
  unended n vs taken ending (Some (Stop why)) h e q = not_ended n vs taken (λ _. []) ending (Stop why) (cc (e)) (λ z. absurd (cc (z))) q
  unended n vs taken ending None h e q = h (lit< tt)

  one_by : (n : ℕ) (vs trees : List V) (taken : ℕ) (ending : Outcome (Unit {0})) →
      Pieces w (TurnsBy (Some 1) (item_turn (one_limits few at_start)) (λ _. m.answers s))
      (λ k j. TurnsBy (Some 1) (item_turn (one_limits few at_start)) (λ _. m.answers s) k j (Ends ending)) 0 i trees taken →
      Accept n vs ≡ after taken (λ _. trees) ending → IsAccepted (m.answers s) i
  one_by n vs [] taken ending p e = absurd (unended n vs taken ending p.1.reply p.1.replied p.1.fact e)
  one_by n vs (t ∷ ts) taken ending p e = taken_accepted (one_limits few at_start) (m.answers s) 0 i p.0 t p.3

  -- where just one is wanted, it is accepted
  pub one_accepted : (n : ℕ) (vs : List V) → (items_meaning w errs (one_limits few at_start) Grows m).answers s i (Accept n vs) → IsAccepted (m.answers s) i
  one_accepted n vs r = one_by n vs r.trees r.taken r.ending r.pieces r.outcome_is
