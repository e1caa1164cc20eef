-- The tree of an expression whose operators stand before, after and between its operands.
use Rattle.std.specs.Prelude.{◌≡◌, ℕ, Bool, true, false, ltb, List, [], ◌∷◌, ◌++◌}
use Rattle.std.proofs.Math.Dec.{leb}

-- an operand; an operator before a tree, or after one; or one between two trees
pub data OperatorTree (P O Q B : Type 0) : Type 0 where
  Bare : O → OperatorTree P O Q B
  Prefixed : P → OperatorTree P O Q B → OperatorTree P O Q B
  Postfixed : OperatorTree P O Q B → Q → OperatorTree P O Q B
  Between : OperatorTree P O Q B → B → OperatorTree P O Q B → OperatorTree P O Q B

-- what stands in an expression
pub data Symbol (P O Q B : Type 0) : Type 0 where
  OfPrefix : P → Symbol P O Q B
  OfOperand : O → Symbol P O Q B
  OfPostfix : Q → Symbol P O Q B
  OfBinary : B → Symbol P O Q B

-- a tree, as it is read from left to right
abbrev pub symbols : {P O Q B : Type 0} → OperatorTree P O Q B → List (Symbol P O Q B)
symbols (Bare o) = OfOperand o ∷ []
symbols (Prefixed p x) = OfPrefix p ∷ symbols x
symbols (Postfixed x q) = symbols x ++ OfPostfix q ∷ []
symbols (Between x b y) = symbols x ++ OfBinary b ∷ symbols y

-- The level of each operator, of which the lesser binds tighter, and whether a binary operator is grouped from the left (true) or from
-- the right (false), beside others of its level.
pub record Binding (P Q B : Type 0) : Type 0 where
  pub prefix : P → ℕ
  pub postfix : Q → ℕ
  pub binary : B → ℕ
  pub from_left : B → Bool

-- An operator of the level k ends the right operand of one of the level j that stands before it: that binds tighter, or as tight, where
-- the later one is grouped from the left.
abbrev pub ends_operand : ℕ → Bool → ℕ → Bool
ends_operand k true j = leb j k
ends_operand k false j = ltb j k

module _ {P O Q B : Type 0} (l : Binding P Q B) where
  -- The right edge of a tree: the operators whose right operand goes to its end. Of the level of each the fact holds.
  abbrev pub RightEdge : (ℕ → Type 0) → OperatorTree P O Q B → Type 0
  RightEdge Fact (Bare o) = Unit {0}
  RightEdge Fact (Prefixed p x) = Fact (l.prefix p) × RightEdge Fact x
  RightEdge Fact (Postfixed x q) = Unit {0}
  RightEdge Fact (Between x b y) = Fact (l.binary b) × RightEdge Fact y

  -- The left edge: those whose left operand begins with it. Of the level of each, and of how it is grouped, the fact holds. A postfix ends
  -- what one grouped from the left does.
  abbrev pub LeftEdge : (ℕ → Bool → Type 0) → OperatorTree P O Q B → Type 0
  LeftEdge Fact (Bare o) = Unit {0}
  LeftEdge Fact (Prefixed p x) = Unit {0}
  LeftEdge Fact (Postfixed x q) = Fact (l.postfix q) true × LeftEdge Fact x
  LeftEdge Fact (Between x b y) = Fact (l.binary b) (l.from_left b) × LeftEdge Fact x

  -- An operator's left operand is all that it ends: on that operand's right edge stand operators that it ends. Its right operand is all up
  -- to one that ends it: on that operand's left edge stand operators that don't. So the loosest operator is the root; but a prefix is the
  -- root only of what it stands before, and a postfix of what it stands after. A tighter operator before a prefix doesn't end its operand,
  -- so a loose prefix takes what it can behind a tight operator too.
  abbrev pub IsGrouped : OperatorTree P O Q B → Type 0
  IsGrouped (Bare o) = Unit {0}
  IsGrouped (Prefixed p x) = LeftEdge (λ k left. ends_operand k left (l.prefix p) ≡ false) x × IsGrouped x
  IsGrouped (Postfixed x q) = RightEdge (λ j. ends_operand (l.postfix q) true j ≡ true) x × IsGrouped x
  IsGrouped (Between x b y) =
      RightEdge (λ j. ends_operand (l.binary b) (l.from_left b) j ≡ true) x
      × LeftEdge (λ k left. ends_operand k left (l.binary b) ≡ false) y
      × IsGrouped x
      × IsGrouped y

  -- the tree of what stands in an expression
  abbrev pub IsTreeOf : List (Symbol P O Q B) → OperatorTree P O Q B → Type 0
  IsTreeOf ss x = (symbols x ≡ ss) × IsGrouped x

-- nothing that stands in an expression has another
abbrev pub HasNoOther : (P O Q B : Type 0) → Binding P Q B → Type 0
HasNoOther P O Q B l = (ss : List (Symbol P O Q B)) (x y : OperatorTree P O Q B) → IsTreeOf l ss x → IsTreeOf l ss y → x ≡ y
