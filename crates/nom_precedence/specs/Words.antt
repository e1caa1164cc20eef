-- The word of an expression by levels.
use Rattle.std.specs.Prelude.{◌≡◌, ℕ, List}
use Rattle.nom.specs.Prelude.{Errors, Model}
use Rattle.nom.specs.Word.{Word, word}
use Rattle.nom.specs.Words.{Mapping, mapping, mapping_is}
use Rattle.nom_operators.specs.declared.operation.Assoc.{Assoc}
use Rattle.nom_operators.specs.declared.operation.Operation.{Operation}
use Rattle.nom_precedence.specs.Values.{precedence_by}

module _ {I A F O G H E : Type 0} (w : Model I A) (errs : Errors I E) (levels : List Assoc) where
  -- prefixes, operands, postfixes and binary operators, a closure that folds each operation, and how each level is grouped
  pub precedence_of : Mapping (Operation F G H O) O → Word I F E → Word I O E → Word I G E → Word I (ℕ × H) E → Word I O E
  precedence_of m prefix operand postfix binary =
      word (precedence_by w errs ((x : Operation F G H O) → m.Takes x) m.Gives levels prefix.grammar operand.grammar postfix.grammar binary.grammar)

  module _ {a b : Word I F E} {c d : Word I O E} {g h : Word I G E} {k l : Word I (ℕ × H) E} where
    pub precedence_worded : (Takes : Operation F G H O → Type 0) (Gives : Operation F G H O → O → Type 0) → a ≡ b → c ≡ d → g ≡ h → k ≡ l →
        precedence_of (mapping Takes Gives) a c g k ≡
        word (precedence_by w errs ((x : Operation F G H O) → Takes x) Gives levels b.grammar d.grammar h.grammar l.grammar)
    unfolding precedence_of
    precedence_worded Takes Gives p q r s = λ i. precedence_of (mapping_is Takes Gives i) (p i) (q i) (r i) (s i)
