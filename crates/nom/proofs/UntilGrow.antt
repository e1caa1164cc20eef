-- Where items until an end run out of memory.
use Rattle.std.proofs.Common.{◌≡◌, ℕ, ◌+◌, Bool, true, false, Option, Some, None, ◌⊎◌, inl, inr, List, [], ◌∷◌, zero, suc, refl, sym, ◌∙◌, subst}
use Rattle.nom_internal.specs.Prelude.{Errors, Modes, with_errors, Model, Outcome, Accept, Refuse, Stop, Meaning, IsLawful, labelled, labelled_meaning}
use Rattle.nom_internal.specs.Prelude.{GoesOnRefused}
use Rattle.nom_internal.specs.laws.CaseLaws.{labelled_lawful}
use Rattle.nom_internal.specs.laws.ChoiceLaws.{otherwise_lawful}
use Rattle.nom_repeat.specs.Repeat.{IsBelow, OnReply, Pieces, Replies, TurnsBy}
use Rattle.nom_repeat.specs.Repeat.Turn.{Takes}
use Rattle.nom_multi.specs.Till.{end_or_item, step_turn, till_turn, TillAsks, OnItem, many_till_meaning}
use Rattle.nom.specs.Growths.{AlwaysFrugal, IsAccepted, GrowsUntil}

module _ {I V T E : Type 0} (m : Meaning I V E) (end : Meaning I T E) (s : Bool) where
  -- the end refuses, and an item is accepted
  abbrev pub IsItem : I → Type 0
  IsItem i = end.answers s i Refuse × IsAccepted (m.answers s) i

  label_of : {P : Type 0} (n : ℕ) (u : T ⊎ V) (label : P → T ⊎ V) (a : Outcome P) → Accept n u ≡ labelled label a →
      (k : ℕ) × (t : P) × (a ≡ Accept k t) × (u ≡ label t)
  label_of n u label (Accept k t) e = (k, t, refl, cc (e))
  label_of n u label Refuse e = absurd (cc (e))
  label_of n u label (Stop why) e = absurd (cc (e))

  refused_of : {P : Type 0} (label : P → T ⊎ V) (a : Outcome P) → Refuse ≡ labelled label a → a ≡ Refuse
  refused_of label (Accept k t) e = absurd (cc (e))
  refused_of label Refuse e = refl
  refused_of label (Stop why) e = absurd (cc (e))

  end_is_no_item : (v : V) (t : T) → ◌≡◌ {A = T ⊎ V} (inr v) (inl t) → ⊥
  end_is_no_item v t e = absurd (cc (e))

  -- the tree of an item comes of an item
  item_of : (i : I) (n : ℕ) (v : V) → (end_or_item end m).answers s i (Accept n (inr v)) → IsItem i
  item_of i n v a = by a.first a.answered a.goes_on
    where
      by : (first : Outcome (T ⊎ V)) → (labelled_meaning inl end).answers s i first →
          GoesOnRefused ((labelled_meaning inr m).answers s i) first (Accept n (inr v)) → IsItem i
      by (Accept k u) b e =
          let c = label_of k u inl b.outcome b.fact in
          let same : u ≡ inr v = cc (e) in
          absurd (end_is_no_item v c.1 (sym same ∙ c.3))
      by Refuse b e =
          let c = label_of n (inr v) inr e.outcome e.fact in (
            subst (λ z. end.answers s z Refuse) (sym b.at_is) (subst (end.answers s b.at) (refused_of inl b.outcome b.fact) b.answered),
            (c.0, c.1, subst (λ z. m.answers s z (Accept c.0 c.1)) (sym e.at_is) (subst (m.answers s e.at) c.2 e.answered)),
          )
      by (Stop why) b e = absurd (cc (e))

  step_taken : (u : T ⊎ V) (n a : ℕ) (v : V) → Takes a v ≡ step_turn u n → (x : V) × (u ≡ inr x)
  step_taken (inl t) n a v e = absurd (cc (e))
  step_taken (inr x) n a v e = (x, refl)

  taken_by : (i : I) (a : ℕ) (v : V) (reply : Option (Outcome (T ⊎ V))) → Replies None (λ _. (end_or_item end m).answers s) 0 i reply →
      Takes a v ≡ till_turn reply → IsItem i
  taken_by i a v (Some (Accept n u)) h e =
      let x = step_taken u n a v e in item_of i n x.0 (subst (λ z. (end_or_item end m).answers s i (Accept n z)) x.1 h.1)
  taken_by i a v (Some Refuse) h e = absurd (cc (e))
  taken_by i a v (Some (Stop why)) h e = absurd (cc (e))
  taken_by i a v None h e = absurd (cc (e))

module _ {I A V T E : Type 0} (w : Model I A) (errs : Errors I E) (m : Meaning I V E) (end : Meaning I T E) (p : IsLawful w m) (q : IsLawful w end)
    (none : errs.grows → ⊥) (mode : Modes) where
  abbrev Asked : ℕ → I → Type 0
  Asked k j =
      OnReply None (λ _. (end_or_item end m).answers mode.streaming) (TillAsks ((mode.errors ≡ true) × errs.grows) (mode.outputs ≡ true)) k j
      ⊎ (IsBelow None k × (end_or_item end m).may_run_out mode j)

  item_asks : (j : I) (u : T ⊎ V) (n : ℕ) → (end_or_item end m).answers mode.streaming j (Accept n u) →
      OnItem ((mode.errors ≡ true) × errs.grows) (mode.outputs ≡ true) u n → (mode.outputs ≡ true) × IsItem m end mode.streaming j
  item_asks j (inl t) n a h = absurd h
  item_asks j (inr v) zero a h = absurd (none h.1)
  item_asks j (inr v) (suc n) a h = (h, item_of m end mode.streaming j (suc n) v a)

  asked_by : (k : ℕ) (j : I) (reply : Option (Outcome (T ⊎ V))) → Replies None (λ _. (end_or_item end m).answers mode.streaming) k j reply →
      TillAsks ((mode.errors ≡ true) × errs.grows) (mode.outputs ≡ true) reply → (mode.outputs ≡ true) × IsItem m end mode.streaming j
  asked_by k j (Some (Accept n u)) h z = item_asks j u n h.1 z
  asked_by k j (Some Refuse) h z = absurd (none z.1)
  asked_by k j (Some (Stop why)) h z = absurd z
  asked_by k j None h z = absurd z

  asked : AlwaysFrugal m × AlwaysFrugal end → (k : ℕ) (j : I) → w.IsKnown j → Asked k j → (mode.outputs ≡ true) × IsItem m end mode.streaming j
  asked frugal k j h (inl r) = asked_by k j r.reply r.replied r.fact
  asked frugal k j h (inr r) =
      let part : IsLawful w (end_or_item end m) = otherwise_lawful (labelled_lawful q) (labelled_lawful p) in
      absurd (part.frugal mode j h (frugal.1 (with_errors false mode), frugal.0 mode) r.1)

  walked : AlwaysFrugal m × AlwaysFrugal end → (k : ℕ) (i : I) (vs : List V) (n : ℕ) → w.IsKnown i →
      Pieces w (TurnsBy None (λ _ a. till_turn a) (λ _. (end_or_item end m).answers mode.streaming)) Asked k i vs n →
      (mode.outputs ≡ true) × IsItem m end mode.streaming i
  walked frugal k i [] n h z = asked frugal k i h z.1
  walked frugal k i (v ∷ vs) n h z =
      ((walked frugal (k + 1) z.2 vs z.1 z.4.known z.5).0, taken_by m end mode.streaming i z.0 v z.3.reply (below z.3.reply z.3.replied) z.3.fact)
    where
      below : (reply : Option (Outcome (T ⊎ V))) → Replies None (λ _. (end_or_item end m).answers mode.streaming) k i reply →
          Replies None (λ _. (end_or_item end m).answers mode.streaming) 0 i reply
      below (Some o) y = y
      below None y = y

pub many_till_grow : {I A V T E : Type 0} (w : Model I A) (errs : Errors I E) (m : Meaning I V E) (end : Meaning I T E) → IsLawful w m → IsLawful w end →
    GrowsUntil w errs m end (many_till_meaning w errs m end)
many_till_grow w errs m end p q frugal none mode i h r = walked w errs m end p q none mode frugal 0 i r.trees r.taken h r.pieces
