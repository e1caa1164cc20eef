-- A number of items has an outcome at every input, if one has.
use Rattle.std.specs.Prelude.{◌≡◌, ℕ, zero, suc, ◌+◌, ◌<◌, Bool, true, false, List, [], ◌∷◌, ltb, Some, None, refl}
use Rattle.std.proofs.Common.{arith}
use Rattle.nom_internal.specs.Prelude.{bytes_model, Outcome, Accept, Refuse, Stop, after}
use Rattle.nom_internal.specs.Meaning.{Within}
use Rattle.nom_repeat.specs.Bounds.{exact_limits}
use Rattle.nom_repeat.specs.Items.{item_turn, refused_turn}
use Rattle.nom_repeat.specs.Repeat.{Pieces, Repeats, Turn, TurnsBy}
use Rattle.nom_repeat.specs.Repeat.Turn.{Takes, Ends}
use Rattle.nom_stream.specs.Items.{Bytes}
use Rattle.nom_write_stream.specs.Pipes.{HasOutcome}
use Rattle.nom_write_stream.proofs.Everywhere.{rest_of}

-- a refusal ends the items
refused_ends : {V : Type 0} → (b : Bool) → (o : Outcome (Unit {0})) × ◌≡◌ {A = Turn V (Unit {0})} (Ends o) (refused_turn b)
refused_ends true = (Refuse, refl)
refused_ends false = (Accept 0 tt, refl)

module _ {V : Type 0} (n : ℕ) {Item : Bytes → Outcome V → Type 0} (within : Within bytes_model Item) (item : HasOutcome Item) where
  abbrev Turns : ℕ → Bytes → Turn V (Unit {0}) → Type 0
  Turns = TurnsBy (Some n) (item_turn (exact_limits n)) (λ _. Item)

  -- an item is taken
  takes_one : (k m : ℕ) (v : V) → ◌≡◌ {A = Turn V (Unit {0})} (Takes m v) (item_turn (exact_limits n) k (Some (Accept m v)))
  takes_one k zero v = refl
  takes_one k (suc m) v = refl

  -- the items that are left, and what ends them
  record Left (k : ℕ) (i : Bytes) : Type 0 where
    trees : List V
    taken : ℕ
    ending : Outcome (Unit {0})
    pieces : Pieces bytes_model Turns (λ k j. Turns k j (Ends ending)) k i trees taken

  module _ (k : ℕ) (below : k < n) (i : Bytes) (known : bytes_model.IsKnown i)
      (more : (j : Bytes) → bytes_model.IsKnown j → Left (k + 1) j) where
    one_more : (o : Outcome V) → Item i o → Left k i
    one_more (Accept m v) a =
        let rest = rest_of i m known (within i m v known a) in
        let others = more rest.0 (rest.1).known in
        record {
          trees = v ∷ others.trees;
          taken = m + others.taken;
          ending = others.ending;
          pieces = (m, others.taken, rest.0, record { reply = Some (Accept m v); replied = (below, a); fact = takes_one k m v }, rest.1, others.pieces, refl);
        }
    one_more Refuse a =
        let end = refused_ends {V = V} (ltb k n) in
        record { trees = []; taken = 0; ending = end.0; pieces = (refl, record { reply = Some Refuse; replied = (below, a); fact = end.1 }) }
    one_more (Stop why) a =
        record { trees = []; taken = 0; ending = Stop why; pieces = (refl, record { reply = Some (Stop why); replied = (below, a); fact = refl }) }

  left : (d k : ℕ) → k + d ≡ n → (i : Bytes) → bytes_model.IsKnown i → Left k i
  left zero k e i known = record {
    trees = [];
    taken = 0;
    ending = Accept 0 tt;
    pieces = (refl, record { reply = None; replied = λ below. absurd (omega (arith, below, e)); fact = refl });
  }
  left (suc d) k e i known =
      let o = item.outcome i known in
      one_more k (omega (arith, e)) i known (left d (k + 1) (omega (arith, e))) o.0 o.1

  pub items_outcome : HasOutcome (Repeats bytes_model Turns (λ vs _. vs))
  items_outcome = record {
    outcome = λ i known.
        let all = left n 0 (omega (arith)) i known in (
          after all.taken (λ _. all.trees) all.ending,
          record {
            trees = all.trees;
            taken = all.taken;
            ending = all.ending;
            pieces = all.pieces;
            outcome_is = refl;
          },
        );
  }
