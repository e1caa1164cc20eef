-- The laws of items in turn, of which one may be stuck.
use Rattle.std.specs.Prelude.{◌≡◌, ℕ, ◌⊎◌, true, Option, Some, None, zero, suc}
use Rattle.std.proofs.Common.{inl, inr}
use Rattle.nom.specs.Prelude.{Model, InputLaws, Outcome, Cause, Accept, Refuse, Stop, Fails, Meaning, IsLawful, IsSteady, always, always_lawful}
use Rattle.nom.specs.Repeat.{Turn, Ran}
use Rattle.nom.specs.Repeat.Turn.{Takes, Ends}
use Rattle.nom.specs.RepeatLaws.{KeepsTurn, KeepsReply, EndsTurn, RuleLaws, repeat_lawful, repeat_steady}
use Rattle.nom_precedence.specs.declared.read.Read.{Read}
use Rattle.nom_precedence.specs.declared.read.Read.TheVariants.{Whole, Stuck}
use Rattle.nom_precedence.specs.Chains.{read_turn, chain_turn, ChainBlames, IfTakes, chain_rule, chain_meaning}

chain_decided : {V : Type 0} (a : Option (Outcome (Read V))) → KeepsTurn true (chain_turn a) → KeepsReply true a
chain_decided (Some (Accept n u)) h = tt
chain_decided (Some Refuse) h = tt
chain_decided (Some (Stop why)) h = h
chain_decided None h = tt

read_ends : {V : Type 0} (u : Read V) (m n : ℕ) (t : Read (Unit {0})) → Ends (Accept n t) ≡ read_turn u m → (n ≡ 0) ⊎ (n ≡ m)
read_ends Stuck m n t e = inr (cc (e))
read_ends (Whole v) zero n t e = inl (cc (e))
read_ends (Whole v) (suc m) n t e = absurd (cc (e))

chain_ends : {V : Type 0} (a : Option (Outcome (Read V))) (n : ℕ) (t : Read (Unit {0})) → Ends (Accept n t) ≡ chain_turn a → EndsTurn n a
chain_ends (Some (Accept m u)) n t e = read_ends u m n t e
chain_ends (Some Refuse) n t e = cc (e)
chain_ends (Some (Stop why)) n t e = absurd (cc (e))
chain_ends None n t e = cc (e)

chain_blames : {V E : Type 0} (a : Option (Outcome V)) (X Y : E → Type 0) (e : E) → (Ran a → (f : E) → X f → Y f) → ChainBlames a X e → ChainBlames a Y e
chain_blames (Some o) X Y e f h = (h.0, f tt e h.1)
chain_blames None X Y e f h = h

takes_none : {V T : Type 0} (Fact : Type 0) (t : Turn V T) → (Fact → ⊥) → IfTakes Fact t → ⊥
takes_none Fact (Takes n v) f h = f h
takes_none Fact (Ends o) f h = h

read_never_fails : {V : Type 0} (cause : Cause) (u : Read V) (n : ℕ) → Ends (Stop (Fails cause)) ≡ read_turn u n → ⊥
read_never_fails cause Stuck n e = absurd (cc (e))
read_never_fails cause (Whole v) zero e = absurd (cc (e))
read_never_fails cause (Whole v) (suc n) e = absurd (cc (e))

chain_fails : {V : Type 0} (cause : Cause) (a : Option (Outcome (Read V))) → Ends (Stop (Fails cause)) ≡ chain_turn a → a ≡ Some (Stop (Fails cause))
chain_fails cause (Some (Accept n u)) e = absurd (read_never_fails cause u n e)
chain_fails cause (Some Refuse) e = absurd (cc (e))
chain_fails cause (Some (Stop why)) e = cc (e)
chain_fails cause None e = absurd (cc (e))

chain_rule_laws : {I V E : Type 0} (Grows : Type 0) → RuleLaws (chain_rule {I = I} {V = V} {E = E} Grows)
chain_rule_laws Grows = record {
  decided = λ k. chain_decided;
  ends = λ k. chain_ends;
  blames = λ i k j a X Y e. chain_blames a X Y e;
  part_frugal = λ Part mode k h. h.0;
  asks_none = λ Part mode k a h. takes_none ((mode.outputs ≡ true) × Grows) (chain_turn a) (λ p. h.1 p.0 p.1);
  never_fails = λ Part cause k a h e. (h, chain_fails cause a e);
}

module _ {I A V E : Type 0} {w : Model I A} (l : InputLaws w) {Grows : Type 0} {m : Meaning I (Read V) E} where
  pub chain_lawful : IsLawful w m → IsLawful w (chain_meaning w Grows m)
  chain_lawful p = repeat_lawful l (chain_rule_laws Grows) (always m) (always_lawful p)

  pub chain_steady : IsSteady w m → IsSteady w (chain_meaning w Grows m)
  chain_steady p = repeat_steady l (chain_rule_laws Grows) (always m) (λ _. p)
