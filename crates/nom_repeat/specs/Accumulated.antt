-- Accumulators, and the items that they hold.
use Rattle.std.specs.Prelude.{◌≡◌, ℕ, ◌+◌, List, [], ◌∷◌, Option, Some, None, Result, Ok, Err}
use Rattle.std.specs.List.{AllZip}

-- one more item, where both are built; and what is called for the next may be called
abbrev pub PushesBoth : {T K : Type 0} → (K → T → K → Type 0) → (K → Type 0) → Option K → Option T → Option K → Type 0
PushesBoth Pushes CanPush (Some k) (Some x) (Some new) = Pushes k x new × CanPush new
PushesBoth Pushes CanPush (Some k) (Some x) None = ⊥
PushesBoth Pushes CanPush (Some k) None new = new ≡ Some k
PushesBoth Pushes CanPush None x new = new ≡ None

-- the accumulator lacks room for the item, where both are built
abbrev pub LacksRoomBoth : {T K : Type 0} → (K → T → K → Type 0) → Option K → Option T → Option K → Type 0
LacksRoomBoth LacksRoom (Some k) (Some x) (Some new) = LacksRoom k x new
LacksRoomBoth LacksRoom (Some k) (Some x) None = ⊥
LacksRoomBoth LacksRoom (Some k) None new = ⊥
LacksRoomBoth LacksRoom None x new = ⊥

-- Where there was room for an item, it was pushed, and there is room for the others.
abbrev pub KeepsRoom : {K X F : Type 0} → (K → ℕ → Type 0) → K → K → Result X F → Type 0
KeepsRoom HasRoom old new (Ok x) = (n : ℕ) → HasRoom old (n + 1) → HasRoom new n
KeepsRoom HasRoom old new (Err e) = (n : ℕ) → HasRoom old (n + 1) → ⊥

-- room for a number of items, where there is an accumulator
abbrev pub HasRoomFor : {K : Type 0} → (K → ℕ → Type 0) → Option K → ℕ → Type 0
HasRoomFor HasRoom (Some k) n = HasRoom k n
HasRoomFor HasRoom None n = Unit {0}

-- that many items more, in their order
abbrev pub Adds : {T K : Type 0} → (K → T → K → Type 0) → K → List T → K → Type 0
Adds Pushes k [] new = new ≡ k
Adds {K = K} Pushes k (x ∷ xs) new = (next : K) × Pushes k x next × Adds Pushes next xs new

-- an accumulator with the outputs of trees, from what it was before
pub record Accumulated {V T K : Type 0} (Pushes : K → T → K → Type 0) (CanPush : K → Type 0) (IsOutput : V → T → Type 0) (before : Option K) (vs : List V)
    (k : K) : Type 0 where
  pub first : K
  pub first_is : before ≡ Some first
  pub outputs : List T
  pub are_outputs : AllZip IsOutput vs outputs
  pub added : Adds Pushes first outputs k
  -- and what is called for one item more may be called
  pub ready : CanPush k
