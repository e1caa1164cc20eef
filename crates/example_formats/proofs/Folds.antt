-- A value by one fold is one by another that gives what the first gives.
use Rattle.std.proofs.Common.{ℕ, Bool, List, [], ◌∷◌}
use Rattle.nom_operators.specs.declared.operation.Operation.{Operation}
use Rattle.nom_precedence.specs.Expressions.{Term, Pair}
use Rattle.nom_operators.specs.Trees.{Tree}
use Rattle.nom_operators.specs.Trees.Tree.{Leaf, Node}
use Rattle.nom_precedence.specs.Values.{PostfixesGive, PrefixesGive, StandsFor, TermGives, TreeGives, folding}

module _ {P V Q B F G H O : Type 0} (IsPrefix : P → F → Type 0) (IsOperand : V → O → Type 0) (IsPostfix : Q → G → Type 0)
    (IsBinary : B → ℕ × H → Type 0) (First Second : Operation F G H O → O → Type 0) (gives : (x : Operation F G H O) (y : O) → First x y → Second x y) where
  postfixes_by : (x : O) (qs : List Q) (y : O) → PostfixesGive (folding IsPrefix IsOperand IsPostfix IsBinary First) x qs y →
      PostfixesGive (folding IsPrefix IsOperand IsPostfix IsBinary Second) x qs y
  postfixes_by x [] y h = h
  postfixes_by x (q ∷ qs) y h = (h.0, h.1, h.2, gives _ _ h.3, postfixes_by h.1 qs y h.4)

  prefixes_by : (ps : List P) (x y : O) → PrefixesGive (folding IsPrefix IsOperand IsPostfix IsBinary First) ps x y →
      PrefixesGive (folding IsPrefix IsOperand IsPostfix IsBinary Second) ps x y
  prefixes_by [] x y h = h
  prefixes_by (p ∷ ps) x y h = (h.0, h.1, h.2, prefixes_by ps x h.1 h.3, gives _ _ h.4)

  term_by : (t : Term P V Q) (y : O) → TermGives (folding IsPrefix IsOperand IsPostfix IsBinary First) t y →
      TermGives (folding IsPrefix IsOperand IsPostfix IsBinary Second) t y
  term_by t y h = record {
    operand = h.operand;
    is_operand = h.is_operand;
    rest = h.rest;
    postfixes_give = postfixes_by h.operand t.postfixes h.rest h.postfixes_give;
    prefixes_give = prefixes_by t.prefixes h.rest y h.prefixes_give;
  }

  tree_by : (t : Tree (Term P V Q) (ℕ × B)) (y : O) → TreeGives (folding IsPrefix IsOperand IsPostfix IsBinary First) t y →
      TreeGives (folding IsPrefix IsOperand IsPostfix IsBinary Second) t y
  tree_by (Leaf t) y h = term_by t y h
  tree_by (Node l o r) y h = (h.0, h.1, h.2, tree_by l h.0 h.3, h.4, tree_by r h.2 h.5, gives _ _ h.6)

  pub stands_by : (left : ℕ → Bool) (t : Term P V Q) (ps : List (Pair B (Term P V Q))) (y : O) →
      StandsFor (folding IsPrefix IsOperand IsPostfix IsBinary First) left t ps y → StandsFor (folding IsPrefix IsOperand IsPostfix IsBinary Second) left t ps y
  stands_by left t ps y h = record { tree = h.tree; is_tree = h.is_tree; gives = tree_by h.tree y h.gives }
