-- The tree of terms with operators between them.
use Rattle.std.specs.Prelude.{◌≡◌, ℕ, ◌<◌, ◌≤◌, Bool, true, false, List, [], ◌∷◌, ◌++◌}

-- a term, or an operator between two trees
pub data Tree (T B : Type 0) : Type 0 where
  Leaf : T → Tree T B
  Node : Tree T B → B → Tree T B → Tree T B

-- An expression is a first term, and pairs of an operator and a term. Each operator has a level, and each level says whether its
-- operators are grouped from the left (true) or from the right (false).
module _ {T B : Type 0} (level : B → ℕ) where
  -- the fact holds of the level of each operator
  abbrev pub Levels : (ℕ → Type 0) → List (B × T) → Type 0
  Levels Fact [] = Unit {0}
  Levels Fact (p ∷ ps) = Fact (level p.0) × Levels Fact ps

  -- An operator of the level k is the root: none before or after it has a greater level; and of its own level, grouped from the left,
  -- it is the last, and grouped from the right the first.
  abbrev pub Parts : Bool → ℕ → List (B × T) → List (B × T) → Type 0
  Parts true k before after = Levels (λ j. j ≤ k) before × Levels (λ j. j < k) after
  Parts false k before after = Levels (λ j. j < k) before × Levels (λ j. j ≤ k) after

module _ {T B : Type 0} (level : B → ℕ) (left : ℕ → Bool) where
  abbrev pub IsRoot : List (B × T) → B → List (B × T) → Type 0
  IsRoot before o after = Parts level (left (level o)) (level o) before after

  -- The tree of a term and pairs: with no operator, the term; else the root between the tree of what stands before it and that of what
  -- stands after it.
  abbrev pub IsTree : T → List (B × T) → Tree T B → Type 0
  IsTree t ps (Leaf u) = (ps ≡ []) × (u ≡ t)
  IsTree t ps (Node l o r) = (before : List (B × T)) × (u : T) × (after : List (B × T)) × (ps ≡ before ++ (o, u) ∷ after) × IsRoot before o after ×
      IsTree t before l × IsTree u after r

-- there is a tree of each term and pairs of operators with their levels, and no other
abbrev pub HasOneTree : (T B : Type 0) → (ℕ → Bool) → Type 0
HasOneTree T B left =
    (t : T) (ps : List ((ℕ × B) × T)) → (x : Tree T (ℕ × B)) × IsTree (λ (o : ℕ × B). o.0) left t ps x ×
    ((y : Tree T (ℕ × B)) → IsTree (λ (o : ℕ × B). o.0) left t ps y → y ≡ x)
