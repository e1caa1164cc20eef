-- Lemmas on the items of a repetition, and what follows from them.
use Rattle.std.specs.Prelude.{ltb}
use Rattle.std.proofs.lemmas.Bool.{le-ltb}
use Rattle.std.proofs.Common.{◌≡◌, Bool, true, false, ℕ, ◌+◌, Option, Some, None, List, [], ◌∷◌, zero, suc, refl, arith, sym, subst}
use Rattle.nom_internal.specs.Prelude.{Errors, Model, InputLaws, rest_rest, Outcome, Accept, Refuse, Stop, Meaning, after}
use Rattle.nom_repeat.specs.Repeat.{Pieces, Replies, TurnsBy}
use Rattle.nom_repeat.specs.Repeat.Turn.{Ends}
use Rattle.nom_repeat.specs.Items.{refused_turn, item_turn}
use Rattle.nom_multi.specs.Many.{many0_meaning}
use Rattle.nom_multi.specs.Promises.{HasEmptyItem, RefusesAtEmpty, HasFewItems}
use Rattle.nom_repeat.proofs.Few.{few_accepted}
use Rattle.nom_repeat.specs.Bounds.{any_limits}
use Rattle.nom_error.specs.declared.kind.ErrorKind.TheVariants as Kind

-- a refusal is that of an empty item
refused_empty : {I V : Type 0} (Item : I → Outcome V → Type 0) (k : ℕ) (i : I) (a : Option (Outcome V)) → Replies None (λ _. Item) k i a →
    Ends Refuse ≡ item_turn (any_limits Kind.Many0) k a → (v : V) × Item i (Accept 0 v)
refused_empty Item k i (Some (Accept zero u)) p e = (u, p.1)
refused_empty Item k i (Some (Accept (suc m) u)) p e = absurd (cc)
refused_empty Item k i (Some Refuse) p e = absurd (enough (ltb k 0) (le-ltb k 0 (omega arith)) e)
  where
    enough : {V : Type 0} (few : Bool) → few ≡ false → Ends Refuse ≡ refused_turn {V = V} few → ⊥
    enough true z e = absurd (cc (z))
    enough false z e = absurd (cc (e))
refused_empty Item k i (Some (Stop why)) p e = absurd (cc)
refused_empty Item k i None p e = absurd (cc)

ends_refused : {T R : Type 0} (n : ℕ) (f : T → R) (o : Outcome T) → Refuse ≡ after n f o → o ≡ Refuse
ends_refused n f (Accept m v) e = absurd (cc)
ends_refused n f Refuse e = refl
ends_refused n f (Stop why) e = absurd (cc)

module _ {I A V : Type 0} (w : Model I A) (Item : I → Outcome V → Type 0) where
  pieces_empty : InputLaws w → (o : Outcome (Unit {0})) → o ≡ Refuse → (k : ℕ) (i : I) (vs : List V) (n : ℕ) → w.IsKnown i →
      Pieces w (TurnsBy None (item_turn (any_limits Kind.Many0)) (λ _. Item))
      (λ h j. TurnsBy None (item_turn (any_limits Kind.Many0)) (λ _. Item) h j (Ends o)) k i vs n → HasEmptyItem w Item i
  pieces_empty l o q k i [] n h p =
      let e : Ends Refuse ≡ item_turn (any_limits Kind.Many0) k (p.1).reply =
      subst (λ z. Ends z ≡ item_turn (any_limits Kind.Many0) k (p.1).reply) q (p.1).fact in
      let a = refused_empty Item k i (p.1).reply (p.1).replied e in
      record {
        taken = 0;
        place = i;
        rest_is = record { known = h; front = []; whole = refl; length_is = refl; mark_is = sym (l.mark_none (w.mark i)) };
        tree = a.0;
        accepted = a.1;
      }
  pieces_empty l o q k i (v ∷ vs) n h p =
      let b = pieces_empty l o q (k + 1) p.2 vs p.1 (p.4).known p.5 in
      record { taken = p.0 + b.taken; place = b.place; rest_is = rest_rest w l i p.0 p.2 b.taken b.place p.4 b.rest_is; tree = b.tree; accepted = b.accepted }

module _ {I A V E : Type 0} (w : Model I A) (errs : Errors I E) (m : Meaning I V E) where
  pub many0_refuses_at_empty : InputLaws w → RefusesAtEmpty w m (many0_meaning w errs m)
  many0_refuses_at_empty l s i h a =
      pieces_empty w (m.answers s) l a.ending (ends_refused a.taken (λ _. a.trees) a.ending a.outcome_is) 0 i a.trees a.taken h a.pieces

  pub many0_has_few_items : HasFewItems w (many0_meaning w errs m)
  many0_has_few_items s i n vs h a = few_accepted w errs (any_limits Kind.Many0) (Unit {0}) m Kind.Many0 refl s i n vs a
