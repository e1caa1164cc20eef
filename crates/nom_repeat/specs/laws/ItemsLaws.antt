-- The laws of items within limits.
use Rattle.std.specs.Prelude.{◌≡◌, ℕ, Bool, true, false, ltb, Option, Some, None, zero, suc}
use Rattle.nom_internal.specs.Prelude.{Errors, ErrorKind, Model, InputLaws, Outcome, Cause, Accept, Refuse, Stop, Fails, Needs, Meaning}
use Rattle.nom_internal.specs.Prelude.{IsLawful, IsSteady, always, always_lawful}
use Rattle.nom_repeat.specs.Repeat.{Ran}
use Rattle.nom_repeat.specs.Repeat.Turn.{Ends}
use Rattle.nom_repeat.specs.laws.RepeatLaws.{KeepsTurn, KeepsReply, EndsTurn, RuleLaws, repeat_lawful, repeat_steady}
use Rattle.nom_repeat.specs.Items.{empty_turn, refused_turn, item_turn, FewBlames, ItemBlames, EmptyAsks, ItemAsks, items_rule, items_meaning}
use Rattle.nom_repeat.specs.declared.items.Limits.{Limits}
use Rattle.nom_repeat.specs.declared.items.TooFew.{TooFew}
use Rattle.nom_repeat.specs.declared.items.TooFew.TheVariants.{Never, Passed, Added, Fresh}

item_decided : {V : Type 0} (b : Limits) (k : ℕ) (a : Option (Outcome V)) → KeepsTurn true (item_turn b k a) → KeepsReply true a
item_decided b k (Some (Accept n v)) h = tt
item_decided b k (Some Refuse) h = tt
item_decided b k (Some (Stop why)) h = h
item_decided b k None h = tt

pub empty_never_ends : {V : Type 0} (kind : Option ErrorKind) (v : V) (n : ℕ) (t : Unit {0}) → Ends (Accept n t) ≡ empty_turn kind v → ⊥
empty_never_ends (Some kind) v n t e = absurd (cc (e))
empty_never_ends None v n t e = absurd (cc (e))

refused_consumes_nothing : {V : Type 0} (few : Bool) (n : ℕ) (t : Unit {0}) → Ends (Accept n t) ≡ refused_turn {V = V} few → n ≡ 0
refused_consumes_nothing true n t e = absurd (cc (e))
refused_consumes_nothing false n t e = cc (e)

item_ends : {V : Type 0} (b : Limits) (k : ℕ) (a : Option (Outcome V)) (n : ℕ) (t : Unit {0}) → Ends (Accept n t) ≡ item_turn b k a → EndsTurn n a
item_ends b k (Some (Accept zero v)) n t e = absurd (empty_never_ends b.empty v n t e)
item_ends b k (Some (Accept (suc m) v)) n t e = absurd (cc (e))
item_ends b k (Some Refuse) n t e = refused_consumes_nothing (ltb k b.least) n t e
item_ends b k (Some (Stop why)) n t e = absurd (cc (e))
item_ends b k None n t e = cc (e)

few_more : {I E : Type 0} (errs : Errors I E) (few : TooFew) (place : I) (X Y : E → Type 0) (e : E) → ((f : E) → X f → Y f) →
    FewBlames errs few place X e → FewBlames errs few place Y e
few_more errs Never place X Y e f h = h
few_more errs Passed place X Y e f h = f e h
few_more errs (Added kind) place X Y e f h = (h.0, f h.0 h.1, h.2)
few_more errs (Fresh kind) place X Y e f h = h

item_blames : {I V E : Type 0} (errs : Errors I E) (b : Limits) (i j : I) (a : Option (Outcome V)) (X Y : E → Type 0) (e : E) →
    (Ran a → (f : E) → X f → Y f) → ItemBlames errs b i j a X e → ItemBlames errs b i j a Y e
item_blames errs b i j (Some (Accept zero v)) X Y e f h = h
item_blames errs b i j (Some (Accept (suc n) v)) X Y e f h = h
item_blames errs b i j (Some Refuse) X Y e f h = few_more errs b.too_few _ X Y e (f tt) h
item_blames errs b i j (Some (Stop (Fails cause))) X Y e f h = f tt e h
item_blames errs b i j (Some (Stop (Needs n))) X Y e f h = h
item_blames errs b i j None X Y e f h = h

empty_asks_none : (kind : Option ErrorKind) (Refused Accumulated : Type 0) → (Refused → ⊥) → (Accumulated → ⊥) → EmptyAsks kind Refused Accumulated → ⊥
empty_asks_none (Some kind) Refused Accumulated f g h = f h
empty_asks_none None Refused Accumulated f g h = g h

item_asks_none : {V : Type 0} (b : Limits) (Refused Accumulated : Type 0) (k : ℕ) (a : Option (Outcome V)) → (Refused → ⊥) → (Accumulated → ⊥) →
    ItemAsks b Refused Accumulated k a → ⊥
item_asks_none b Refused Accumulated k (Some (Accept zero v)) f g h = empty_asks_none b.empty Refused Accumulated f g h
item_asks_none b Refused Accumulated k (Some (Accept (suc n) v)) f g h = g h
item_asks_none b Refused Accumulated k (Some Refuse) f g h = f h.2
item_asks_none b Refused Accumulated k (Some (Stop why)) f g h = h
item_asks_none b Refused Accumulated k None f g h = h

empty_never_fails : {V : Type 0} (cause : Cause) (kind : Option ErrorKind) (v : V) → Ends (Stop (Fails cause)) ≡ empty_turn kind v → ⊥
empty_never_fails cause (Some kind) v e = absurd (cc (e))
empty_never_fails cause None v e = absurd (cc (e))

refused_never_fails : {V : Type 0} (cause : Cause) (few : Bool) → Ends (Stop (Fails cause)) ≡ refused_turn {V = V} few → ⊥
refused_never_fails cause true e = absurd (cc (e))
refused_never_fails cause false e = absurd (cc (e))

item_fails : {V : Type 0} (b : Limits) (cause : Cause) (k : ℕ) (a : Option (Outcome V)) → Ends (Stop (Fails cause)) ≡ item_turn b k a →
    a ≡ Some (Stop (Fails cause))
item_fails b cause k (Some (Accept zero v)) e = absurd (empty_never_fails cause b.empty v e)
item_fails b cause k (Some Refuse) e = absurd (refused_never_fails cause (ltb k b.least) e)
item_fails b cause k (Some (Accept (suc n) v)) e = absurd (cc (e))
item_fails b cause k (Some (Stop why)) e = cc (e)
item_fails b cause k None e = absurd (cc (e))

pub items_rule_laws : {I V E : Type 0} (errs : Errors I E) (b : Limits) (Grows : Type 0) → RuleLaws (items_rule {V = V} errs b Grows)
items_rule_laws errs b Grows = record {
  decided = item_decided b;
  ends = item_ends b;
  blames = λ i k j a P Q e. item_blames errs b i j a P Q e;
  part_frugal = λ Part mode k h. h.0;
  asks_none = λ Part mode k a h. item_asks_none b ((mode.errors ≡ true) × errs.grows) ((mode.outputs ≡ true) × Grows) k a (λ p. h.2 p.0 p.1) (λ p. h.1 p.0 p.1);
  never_fails = λ Part cause k a h e. (h, item_fails b cause k a e);
}

module _ {I A V E : Type 0} {w : Model I A} (l : InputLaws w) (errs : Errors I E) (b : Limits) {Grows : Type 0} {m : Meaning I V E} where
  pub items_lawful : IsLawful w m → IsLawful w (items_meaning w errs b Grows m)
  items_lawful p = repeat_lawful l (items_rule_laws errs b Grows) (always m) (always_lawful p)

  pub items_steady : IsSteady w m → IsSteady w (items_meaning w errs b Grows m)
  items_steady p = repeat_steady l (items_rule_laws errs b Grows) (always m) (λ _. p)
