-- The laws of items until an end.
use Rattle.std.specs.Prelude.{◌≡◌, ℕ, ◌⊎◌, true, Option, Some, None, zero, suc}
use Rattle.std.proofs.Common.{inl, inr}
use Rattle.nom_internal.specs.Prelude.{Errors, Model, InputLaws, Outcome, Cause, Accept, Refuse, Stop, Fails, Needs, Meaning, IsLawful}
use Rattle.nom_internal.specs.Prelude.{IsSteady, always, always_lawful}
use Rattle.nom_internal.specs.laws.CaseLaws.{labelled_lawful, labelled_steady}
use Rattle.nom_internal.specs.laws.ChoiceLaws.{otherwise_lawful, otherwise_steady}
use Rattle.nom_repeat.specs.Repeat.{Ran}
use Rattle.nom_repeat.specs.Repeat.Turn.{Ends}
use Rattle.nom_repeat.specs.laws.RepeatLaws.{KeepsTurn, KeepsReply, EndsTurn, RuleLaws, repeat_lawful, repeat_steady}
use Rattle.nom_multi.specs.Till.{end_or_item, step_turn, till_turn, OnItem, TillBlames, TillAsks, till_rule, many_till_meaning}

till_decided : {T V : Type 0} (a : Option (Outcome (T ⊎ V))) → KeepsTurn true (till_turn a) → KeepsReply true a
till_decided (Some (Accept n u)) h = tt
till_decided (Some Refuse) h = tt
till_decided (Some (Stop why)) h = h
till_decided None h = tt

step_ends : {T V : Type 0} (u : T ⊎ V) (m n : ℕ) (t : T) → Ends (Accept n t) ≡ step_turn u m → n ≡ m
step_ends (inl x) m n t e = cc (e)
step_ends (inr v) zero n t e = absurd (cc (e))
step_ends (inr v) (suc m) n t e = absurd (cc (e))

till_ends : {T V : Type 0} (a : Option (Outcome (T ⊎ V))) (n : ℕ) (t : T) → Ends (Accept n t) ≡ till_turn a → EndsTurn n a
till_ends (Some (Accept m u)) n t e = inr (step_ends u m n t e)
till_ends (Some Refuse) n t e = absurd (cc (e))
till_ends (Some (Stop why)) n t e = absurd (cc (e))
till_ends None n t e = absurd (cc (e))

till_blames : {I T V E : Type 0} (errs : Errors I E) (j : I) (a : Option (Outcome (T ⊎ V))) (X Y : E → Type 0) (e : E) → (Ran a → (f : E) → X f → Y f) →
    TillBlames errs j a X e → TillBlames errs j a Y e
till_blames errs j (Some (Accept n u)) X Y e f h = h
till_blames errs j (Some Refuse) X Y e f h = (h.0, f tt h.0 h.1, h.2)
till_blames errs j (Some (Stop (Fails cause))) X Y e f h = f tt e h
till_blames errs j (Some (Stop (Needs n))) X Y e f h = h
till_blames errs j None X Y e f h = h

till_item_asks_none : {T V : Type 0} (Refused Accumulated : Type 0) (u : T ⊎ V) (n : ℕ) → (Refused → ⊥) → (Accumulated → ⊥) → OnItem Refused Accumulated u n → ⊥
till_item_asks_none Refused Accumulated (inl t) n f g h = h
till_item_asks_none Refused Accumulated (inr v) zero f g h = f h
till_item_asks_none Refused Accumulated (inr v) (suc n) f g h = g h

till_asks_none : {T V : Type 0} (Refused Accumulated : Type 0) (a : Option (Outcome (T ⊎ V))) → (Refused → ⊥) → (Accumulated → ⊥) →
    TillAsks Refused Accumulated a → ⊥
till_asks_none Refused Accumulated (Some (Accept n u)) f g h = till_item_asks_none Refused Accumulated u n f g h
till_asks_none Refused Accumulated (Some Refuse) f g h = f h
till_asks_none Refused Accumulated (Some (Stop why)) f g h = h
till_asks_none Refused Accumulated None f g h = h

step_never_fails : {T V : Type 0} (cause : Cause) (u : T ⊎ V) (n : ℕ) → Ends (Stop (Fails cause)) ≡ step_turn u n → ⊥
step_never_fails cause (inl t) n e = absurd (cc (e))
step_never_fails cause (inr v) zero e = absurd (cc (e))
step_never_fails cause (inr v) (suc n) e = absurd (cc (e))

till_fails : {T V : Type 0} (cause : Cause) (a : Option (Outcome (T ⊎ V))) → Ends (Stop (Fails cause)) ≡ till_turn a → a ≡ Some (Stop (Fails cause))
till_fails cause (Some (Accept n u)) e = absurd (step_never_fails cause u n e)
till_fails cause (Some Refuse) e = absurd (cc (e))
till_fails cause (Some (Stop why)) e = cc (e)
till_fails cause None e = absurd (cc (e))

till_rule_laws : {I T V E : Type 0} (errs : Errors I E) → RuleLaws (till_rule {T = T} {V = V} errs)
till_rule_laws errs = record {
  decided = λ k. till_decided;
  ends = λ k. till_ends;
  blames = λ i k j a P Q e. till_blames errs j a P Q e;
  part_frugal = λ Part mode k h. h.0;
  asks_none = λ Part mode k a h. till_asks_none ((mode.errors ≡ true) × errs.grows) (mode.outputs ≡ true) a (λ p. h.2 p.0 p.1) h.1;
  never_fails = λ Part cause k a h e. (h, till_fails cause a e);
}

module _ {I A T V E : Type 0} {w : Model I A} (l : InputLaws w) (errs : Errors I E) {m : Meaning I V E} {end : Meaning I T E} where
  pub many_till_lawful : IsLawful w m → IsLawful w end → IsLawful w (many_till_meaning w errs m end)
  many_till_lawful p q =
      repeat_lawful l (till_rule_laws errs) (always (end_or_item end m)) (always_lawful (otherwise_lawful (labelled_lawful q) (labelled_lawful p)))

  pub many_till_steady : IsSteady w m → IsSteady w end → IsSteady w (many_till_meaning w errs m end)
  many_till_steady p q =
      repeat_steady l (till_rule_laws errs) (always (end_or_item end m)) (λ _. otherwise_steady (labelled_steady q) (labelled_steady p))
