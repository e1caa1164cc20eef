-- Closures that a parser calls on the outputs of its part: what they owe, and what they give.
use Rattle.std.specs.Prelude.{◌≡◌, Bool}
use Rattle.std.specs.Borrow.{Bor}
use Rattle.nom_traits.specs.View.{View}

-- what a closure gives for an output of a tree
pub record GivesFor {V P R : Type 0} (IsOutput : V → P → Type 0) (Gives : P → R → Type 0) (t : V) (r : R) : Type 0 where
  pub output : P
  pub is_output : IsOutput t output
  pub given : Gives output r

-- a closure takes every output of the part
pub record IsCallable {V P : Type 0} (IsOutput : V → P → Type 0) (Takes : P → Type 0) : Type 0 where
  pub takes : (t : V) (p : P) → IsOutput t p → Takes p

-- and an output is accepted where what the closure gives for it fits
pub record IsAsked {V P R : Type 0} (IsOutput : V → P → Type 0) (Takes : P → Type 0) (Gives : P → R → Type 0) (fits : R → Bool) : Type 0 where
  pub takes : (t : V) (p : P) → IsOutput t p → Takes p

-- A closure judges the outputs of one tree alike: so a verdict that rests on what it gives is fixed by the tree.
pub record IsJudge {V P R : Type 0} (IsOutput : V → P → Type 0) (Gives : P → R → Type 0) (fits : R → Bool) : Type 0 where
  pub fixed : (t : V) (p q : P) (r x : R) → IsOutput t p → IsOutput t q → Gives p r → Gives q x → fits r ≡ fits x

-- A closure gives results that are equal as viewed for arguments that are. No verdict rests on it: it is asked only where outputs
-- are compared.
pub record SeesConsistently {P R : Type 0} (argument : View P) (result : View R) (Gives : P → R → Type 0) : Type 0 where
  pub consistent : (p q : P) (r x : R) → argument.value p ≡ argument.value q → Gives p r → Gives q x → result.value r ≡ result.value x

-- A closure on references takes each one to an output.
abbrev pub TakesAt : {O : Type 0} → (Bor O → Type 0) → O → Type 0
TakesAt {O = O} Takes o = (p : Bor O) → p.now ≡ o → Takes p

-- and what it gives at some reference to an output
pub record GivesAt {O R : Type 0} (Gives : Bor O → R → Type 0) (o : O) (r : R) : Type 0 where
  pub shown : Bor O
  pub shows : shown.now ≡ o
  pub given : Gives shown r
