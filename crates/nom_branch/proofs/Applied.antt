-- Turns that leave one member fewer each apply all.
use Rattle.std.specs.Prelude.{◌≡◌, ℕ, ◌+◌, ◌≤◌, Bool, List, [], ◌∷◌, length, Option, None}
use Rattle.std.proofs.Common.{arith, sym, ap, subst, inl, inr, zero, suc}
use Rattle.nom_internal.specs.Prelude.{Model, InputLaws}
use Rattle.nom_branch.specs.Members.{Member, EachMember}
use Rattle.nom_branch.specs.Left.{count_of_left, left, LeavesOneFewer}
use Rattle.nom_branch.specs.Permutation.{permutation_meaning}
use Rattle.nom_branch.specs.Order.{TakesTurn, AllApplied, InOrder}
use Rattle.nom_branch.specs.Once.{AppliesEachOnce, AcceptsEachOrder}
use Rattle.nom_branch.proofs.Orders.{permutation_in_order, order_in_permutation}

not_left : {P : Type 0} (x : Option P) (n : ℕ) → count_of_left x + n ≡ 0 → x ≡ None → ⊥
not_left x n h e = omega (arith, h, ap count_of_left e)

none_left : {I T E : Type 0} (ms : List (Member I T E)) (t : T) → left ms t ≡ 0 → AllApplied ms t
none_left [] t h = tt
none_left (m ∷ ms) t h = (not_left (m.tree t) (left ms t) h, none_left ms t (omega (arith, h)))

all_left : {I T E : Type 0} (ms : List (Member I T E)) (t : T) → EachMember (λ m. m.tree t ≡ None) ms → left ms t ≡ length ms
all_left [] t h = omega arith
all_left (m ∷ ms) t h = omega (arith, ap count_of_left h.0, all_left ms t h.1)

module _ {I T E : Type 0} (s : Bool) (all : List (Member I T E)) where
  turn_left : (ms : List (Member I T E)) → EachMember (LeavesOneFewer all) ms → (t : T) (i : I) (n : ℕ) (u : T) → TakesTurn s ms t i n u →
      left all t ≡ suc (left all u)
  turn_left [] f t i n u h = absurd h
  turn_left (m ∷ ms) f t i n u (inl h) = subst (λ x. left all t ≡ suc (left all x)) (sym h.put) (f.0 t h.tree h.waits)
  turn_left (m ∷ ms) f t i n u (inr h) = turn_left ms f.1 t i n u h.1

module _ {I A T E : Type 0} (w : Model I A) (s : Bool) (ms : List (Member I T E)) (f : EachMember (LeavesOneFewer ms) ms) (u : T) where
  order_applies : (k : ℕ) (t : T) (i : I) (n : ℕ) → left ms t ≤ k → InOrder w s ms u k t i n → AllApplied ms u
  order_applies zero t i n h o = subst (AllApplied ms) (sym o.1) (none_left ms t (omega (arith, h)))
  order_applies (suc k) t i n h (inl o) = subst (AllApplied ms) (sym o.2) o.0
  order_applies (suc k) t i n h (inr o) = order_applies k o.trees o.rest o.more (omega (arith, h, turn_left s ms ms f t i o.length o.trees o.turn)) o.others

module _ {I A T E : Type 0} (w : Model I A) (l : InputLaws w) (Joins : E → E → E → Type 0) (Closes : I → E → E → Type 0) (Grows : Type 0)
    (ms : List (Member I T E)) (none : T) where
  pub applies_once : EachMember (λ m. m.tree none ≡ None) ms → EachMember (LeavesOneFewer ms) ms →
      AppliesEachOnce w ms none (permutation_meaning w Joins Closes Grows ms none)
  applies_once g f s i n u h a =
      let order = permutation_in_order w Joins Closes Grows ms s none i n u a in
      (order, order_applies w s ms f u (length ms) none i n (omega (arith, all_left ms none g)) order)

  pub accepts_orders : AcceptsEachOrder w ms none (permutation_meaning w Joins Closes Grows ms none)
  accepts_orders s i n u h o = order_in_permutation w l Joins Closes Grows ms s none i n u h o
