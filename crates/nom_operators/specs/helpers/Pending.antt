-- Operators whose right operand isn't read to its end, the innermost first, and the value of what stands after the innermost: what they
-- stand for.
use Rattle.std.specs.Prelude.{◌≡◌, ℕ, ◌+◌, ◌<◌, Bool, true, false, List, [], ◌∷◌, ◌++◌, Result}
use Rattle.nom_operators.specs.Groups.{is_left}
use Rattle.nom_operators.specs.OperatorTrees.{OperatorTree, Symbol, symbols, ends_operand, RightEdge, LeftEdge, IsGrouped}
use Rattle.nom_operators.specs.OperatorTrees.Symbol.{OfPrefix, OfBinary}
use Rattle.nom_operators.specs.Evaluations.{by_precedence, Evaluates, PrefixGives, BinaryGives}
use Rattle.nom_operators.specs.declared.operation.Operation.{Operation}
use Rattle.nom_operators.specs.declared.precedences.Unary.{Unary}
use Rattle.nom_operators.specs.declared.precedences.Binary.{Binary}
use Rattle.nom_operators.specs.declared.pending.Pending.{Pending}
use Rattle.nom_operators.specs.declared.pending.Pending.TheVariants.{Prefix, Left}

abbrev pub level_of_pending : {P B R : Type 0} → Pending P B R → ℕ
level_of_pending (Prefix p) = p.precedence
level_of_pending (Left y b) = b.precedence

-- an operator of the level k, so grouped, doesn't end the right operand of the innermost
abbrev pub EndsNone : {P B R : Type 0} → List (Pending P B R) → ℕ → Bool → Type 0
EndsNone [] k left = Unit {0}
EndsNone (e ∷ s) k left = ends_operand k left (level_of_pending e) ≡ false

-- prefixes that wait too, the last of them innermost
abbrev pub with_prefixes : {P B R : Type 0} → List (Unary P) → List (Pending P B R) → List (Pending P B R)
with_prefixes [] s = s
with_prefixes (p ∷ ps) s = with_prefixes ps (Prefix p ∷ s)

-- A list has no room for that many operators that wait. The innermost isn't kept in it.
abbrev pub StackLacksRoom : (capacity waits : ℕ) → Type 0
StackLacksRoom capacity waits = capacity + 1 < waits

module _ {P Q B O X : Type 0} (Gives : Operation P Q B O → Result O X → Type 0) where
  -- what an operator gives for the value on its right
  abbrev pub PendingGives : Pending P B (Result O X) → Result O X → Result O X → Type 0
  PendingGives (Prefix p) y r = PrefixGives Gives p y r
  PendingGives (Left z b) y r = BinaryGives Gives z b y r

  -- symbols up to an operand are these operators, each with the tree on its left
  abbrev pub WaitsBefore : List (Symbol (Unary P) O (Unary Q) (Binary B)) → List (Pending P B (Result O X)) → Type 0
  WaitsBefore ss [] = ss ≡ []
  WaitsBefore ss (Prefix p ∷ s) = (before : List (Symbol (Unary P) O (Unary Q) (Binary B))) × (ss ≡ before ++ OfPrefix p ∷ []) × WaitsBefore before s
  WaitsBefore ss (Left y b ∷ s) =
      (before : List (Symbol (Unary P) O (Unary Q) (Binary B)))
      × (x : OperatorTree (Unary P) O (Unary Q) (Binary B))
      × (ss ≡ before ++ (symbols x ++ OfBinary b ∷ []))
      × WaitsBefore before s
      × IsGrouped by_precedence x
      × RightEdge by_precedence (λ j. ends_operand b.precedence (is_left b.assoc) j ≡ true) x
      × LeftEdge by_precedence (EndsNone s) x
      × EndsNone s b.precedence (is_left b.assoc)
      × Evaluates Gives x y

  -- Symbols up to the end of an operand are these operators, and a tree after them with that value; of the levels on its right edge the
  -- fact holds.
  pub record IsPartlyRead (Fact : ℕ → Type 0) (ss : List (Symbol (Unary P) O (Unary Q) (Binary B))) (s : List (Pending P B (Result O X))) (y : Result O X)
      : Type 0 where
    pub before : List (Symbol (Unary P) O (Unary Q) (Binary B))
    pub tree : OperatorTree (Unary P) O (Unary Q) (Binary B)
    pub symbols_are : ss ≡ before ++ symbols tree
    pub stands : WaitsBefore before s
    pub grouped : IsGrouped by_precedence tree
    pub right_edge : RightEdge by_precedence Fact tree
    pub left_edge : LeftEdge by_precedence (EndsNone s) tree
    pub evaluates : Evaluates Gives tree y

  -- after an operand or a postfix: nothing is open on its right edge
  abbrev pub HasRead : List (Symbol (Unary P) O (Unary Q) (Binary B)) → List (Pending P B (Result O X)) → Result O X → Type 0
  HasRead = IsPartlyRead (λ _. ⊥)

  -- while an operator of the level k ends the operands before it
  abbrev pub IsEnding : ℕ → Bool → List (Symbol (Unary P) O (Unary Q) (Binary B)) → List (Pending P B (Result O X)) → Result O X → Type 0
  IsEnding k left = IsPartlyRead (λ j. ends_operand k left j ≡ true)
