-- The fold of a tree of operators, from its leaves up.
use Rattle.std.specs.Prelude.{◌≡◌, List, [], ◌∷◌, ◌++◌, map, Result, Ok, Err}
use Rattle.nom_operators.specs.Groups.{is_left}
use Rattle.nom_operators.specs.OperatorTrees.{OperatorTree, Symbol, Binding, IsTreeOf}
use Rattle.nom_operators.specs.OperatorTrees.OperatorTree.{Bare, Prefixed, Postfixed, Between}
use Rattle.nom_operators.specs.OperatorTrees.Symbol.{OfPrefix, OfOperand, OfPostfix, OfBinary}
use Rattle.nom_operators.specs.declared.operation.Operation.{Operation}
use Rattle.nom_operators.specs.declared.operation.Operation.TheVariants as Does
use Rattle.nom_operators.specs.declared.precedences.Unary.{Unary}
use Rattle.nom_operators.specs.declared.precedences.Binary.{Binary}

-- of a value the fact holds; an error stays
abbrev pub OnValue : {X O : Type 0} → Result O X → (O → Type 0) → Result O X → Type 0
OnValue (Ok v) Fact r = Fact v
OnValue (Err e) Fact r = r ≡ Err e

-- operators, by the precedence that each has
abbrev pub by_precedence : {P Q B : Type 0} → Binding (Unary P) (Unary Q) (Binary B)
by_precedence = record {
  prefix = λ p. p.precedence;
  postfix = λ q. q.precedence;
  binary = λ b. b.precedence;
  from_left = λ b. is_left b.assoc;
}

module _ {P Q B O X : Type 0} (Gives : Operation P Q B O → Result O X → Type 0) where
  -- an operator on the values of its operands: an error of the left one stays, and then one of the right one
  abbrev pub PrefixGives : Unary P → Result O X → Result O X → Type 0
  PrefixGives p y r = OnValue y (λ v. Gives (Does.Prefix p.value v) r) r

  abbrev pub PostfixGives : Result O X → Unary Q → Result O X → Type 0
  PostfixGives y q r = OnValue y (λ v. Gives (Does.Postfix v q.value) r) r

  abbrev pub BinaryGives : Result O X → Binary B → Result O X → Result O X → Type 0
  BinaryGives y b z r = OnValue y (λ u. OnValue z (λ v. Gives (Does.Binary u b.value v) r) r) r

  -- the value of a tree, or the error of the first operation that the fold refuses, by the order in which they are applied
  abbrev pub Evaluates : OperatorTree (Unary P) O (Unary Q) (Binary B) → Result O X → Type 0
  Evaluates (Bare o) r = r ≡ Ok o
  Evaluates (Prefixed p x) r = (y : Result O X) × Evaluates x y × PrefixGives p y r
  Evaluates (Postfixed x q) r = (y : Result O X) × Evaluates x y × PostfixGives y q r
  Evaluates (Between x b z) r = (y : Result O X) × (w : Result O X) × Evaluates x y × Evaluates z w × BinaryGives y b w r

  -- and that of what stands in an expression, by its tree
  pub record IsValueOf (ss : List (Symbol (Unary P) O (Unary Q) (Binary B))) (r : Result O X) : Type 0 where
    pub tree : OperatorTree (Unary P) O (Unary Q) (Binary B)
    pub is_tree : IsTreeOf by_precedence ss tree
    pub evaluates : Evaluates tree r

-- a term: prefixes, an operand, and postfixes
abbrev pub term_symbols : {P O Q B : Type 0} → List P → O → List Q → List (Symbol P O Q B)
term_symbols ps o qs = map OfPrefix ps ++ OfOperand o ∷ map OfPostfix qs

-- binary operators, each with the term after it
abbrev pub pair_symbols : {P O Q B : Type 0} → List (B × (List P × O × List Q)) → List (Symbol P O Q B)
pair_symbols [] = []
pair_symbols (p ∷ ps) = (OfBinary p.0 ∷ term_symbols p.1.0 p.1.1 p.1.2) ++ pair_symbols ps

-- a term, and pairs of an operator and a term, have a tree
abbrev pub HasTree : (P O Q B : Type 0) → Type 0
HasTree P O Q B = (ps : List (Unary P)) (o : O) (qs : List (Unary Q)) (pairs : List (Binary B × (List (Unary P) × O × List (Unary Q)))) →
    (x : OperatorTree (Unary P) O (Unary Q) (Binary B)) × IsTreeOf by_precedence (term_symbols ps o qs ++ pair_symbols pairs) x
