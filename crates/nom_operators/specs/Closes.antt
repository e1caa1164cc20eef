-- Which operators of a stack a new one closes: a stack of those whose right side isn't read to its end, the innermost first.
use Rattle.std.specs.Prelude.{◌≡◌, ℕ, ◌<◌, ◌⊎◌, Bool, true, false, List, [], ◌∷◌}

-- an operator of the level k ends the right side of one of the level j: that binds tighter, or as tight, and grouped from the left
abbrev pub Closes : (ℕ → Bool) → ℕ → ℕ → Type 0
Closes left k j = (j < k) ⊎ ((j ≡ k) × (left k ≡ true))

-- and else the right side goes on after it
abbrev pub GoesUnder : (ℕ → Bool) → ℕ → ℕ → Type 0
GoesUnder left k j = (k < j) ⊎ ((j ≡ k) × (left k ≡ false))

-- an operator of the level k goes under the innermost on the stack, if there is one
abbrev pub UnderInnermost : {X C : Type 0} → (ℕ → Bool) → (C → ℕ) → ℕ → List (X × C) → Type 0
UnderInnermost left of k [] = Unit {0}
UnderInnermost left of k (e ∷ s) = GoesUnder left k (of e.1)
