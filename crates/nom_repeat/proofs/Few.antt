-- How many items an input holds.
use Rattle.std.specs.Prelude.{ltb}
use Rattle.std.proofs.Common.{◌≡◌, Bool, true, false, ℕ, ◌+◌, ◌<◌, ◌≤◌, Option, Some, None, List, [], ◌∷◌, length, zero, suc, refl, arith, ap}
use Rattle.nom_internal.specs.Prelude.{Errors, ErrorKind, Model, input_len, Outcome, Accept, Refuse, Stop, Meaning, after}
use Rattle.nom_internal.proofs.Consumed.{rest_length}
use Rattle.nom_repeat.specs.Repeat.{Pieces, TurnsBy}
use Rattle.nom_repeat.specs.Repeat.Turn.{Takes}
use Rattle.nom_repeat.specs.Items.{empty_turn, refused_turn, item_turn, items_meaning}
use Rattle.nom_repeat.specs.declared.items.Limits.{Limits}

refused_takes_none : {V : Type 0} {n : ℕ} {v : V} (few : Bool) → Takes n v ≡ refused_turn few → ⊥
refused_takes_none true e = absurd (cc (e))
refused_takes_none false e = absurd (cc (e))

empty_takes : {V : Type 0} (kind : Option ErrorKind) (n : ℕ) (u v : V) → Takes n v ≡ empty_turn kind u → (kind ≡ None) × (n ≡ 0) × (u ≡ v)
empty_takes (Some kind) n u v e = absurd (cc (e))
empty_takes None n u v e = (refl, cc (e), cc (e))

-- what is taken was accepted
pub taken_accepted : {V : Type 0} (b : Limits) (k : ℕ) (a : Option (Outcome V)) (n : ℕ) (v : V) → Takes n v ≡ item_turn b k a → a ≡ Some (Accept n v)
taken_accepted b k (Some (Accept zero u)) n v e = let h = empty_takes b.empty n u v e in cc (h.1, h.2)
taken_accepted b k (Some (Accept (suc m) u)) n v e =
    let same : n ≡ suc m = cc (e) in
    let tree : v ≡ u = cc (e) in
    cc (same, tree)
taken_accepted b k (Some Refuse) n v e = absurd (refused_takes_none (ltb k b.least) e)
taken_accepted b k (Some (Stop why)) n v e = absurd (cc (e))
taken_accepted b k None n v e = absurd (cc (e))

-- and consumes, where an empty item is refused
pub taken_consumes : {V : Type 0} (b : Limits) (kind : ErrorKind) → b.empty ≡ Some kind → (k : ℕ) (a : Option (Outcome V)) (n : ℕ) (v : V) →
    Takes n v ≡ item_turn b k a → 0 < n
taken_consumes b kind is k (Some (Accept zero u)) n v e =
    let none : b.empty ≡ None = (empty_takes b.empty n u v e).0 in absurd (cc (none, is))
taken_consumes b kind is k (Some (Accept (suc m) u)) n v e =
    let same : n ≡ suc m = cc (e) in
    omega (arith, same)
taken_consumes b kind is k (Some Refuse) n v e = absurd (refused_takes_none (ltb k b.least) e)
taken_consumes b kind is k (Some (Stop why)) n v e = absurd (cc (e))
taken_consumes b kind is k None n v e = absurd (cc (e))

pub accepted_tree : {T R : Type 0} (n m : ℕ) (t v : R) (o : Outcome T) → Accept n v ≡ after m (λ _. t) o → v ≡ t
accepted_tree n m t v (Accept k u) e = cc (e)
accepted_tree n m t v Refuse e = absurd (cc (e))
accepted_tree n m t v (Stop why) e = absurd (cc (e))

-- the items before an end are no more than all that is accepted
pub taken_within : {T R : Type 0} (n m : ℕ) (t v : R) (o : Outcome T) → Accept n v ≡ after m (λ _. t) o → m ≤ n
taken_within n m t v (Accept k u) e = let sum : n ≡ m + k = cc (e) in omega (arith, sum)
taken_within n m t v Refuse e = absurd (cc (e))
taken_within n m t v (Stop why) e = absurd (cc (e))

module _ {I A V : Type 0} (w : Model I A) (b : Limits) (kind : ErrorKind) (is : b.empty ≡ Some kind) (Item : I → Outcome V → Type 0) where
  -- no more than the input is long, where each consumes
  pub pieces_few : (Fact : ℕ → I → Type 0) (k : ℕ) (i : I) (vs : List V) (n : ℕ) → Pieces w (TurnsBy b.most (item_turn b) (λ _. Item)) Fact k i vs n →
      length vs ≤ input_len w i
  pieces_few Fact k i [] n p = omega arith
  pieces_few Fact k i (v ∷ vs) n p =
      omega (arith, pieces_few Fact (k + 1) p.2 vs p.1 p.5, rest_length p.4, taken_consumes b kind is k (p.3).reply p.0 v (p.3).fact)

module _ {I A V E : Type 0} (w : Model I A) (errs : Errors I E) (b : Limits) (Grows : Type 0) (m : Meaning I V E) where
  -- that many items are accepted at most
  pub few_accepted : (kind : ErrorKind) → b.empty ≡ Some kind → (s : Bool) (i : I) (n : ℕ) (vs : List V) →
      (items_meaning w errs b Grows m).answers s i (Accept n vs) → length vs ≤ input_len w i
  few_accepted kind is s i n vs a =
      let same : vs ≡ a.trees = accepted_tree n a.taken a.trees vs a.ending a.outcome_is in
      omega (arith, ap length same, pieces_few w b kind is (m.answers s) _ 0 i a.trees a.taken a.pieces)
