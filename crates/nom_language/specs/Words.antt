-- The words of expressions.
use Rattle.std.specs.Prelude.{◌≡◌, ℕ, Option, Result}
use Rattle.std.proofs.Common.{ap, ap₂}
use Rattle.nom_error.specs.Errors.{Errors, Externals}
use Rattle.nom_traits.specs.Input.{Model}
use Rattle.nom_internal.specs.Word.{Word, word}
use Rattle.nom_internal.specs.Words.{Mapping, mapping, mapping_is}
use Rattle.nom_operators.specs.declared.operation.Assoc.{Assoc}
use Rattle.nom_operators.specs.declared.operation.Operation.{Operation}
use Rattle.nom_operators.specs.declared.precedences.Unary.{Unary}
use Rattle.nom_operators.specs.declared.precedences.Binary.{Binary}
use Rattle.nom_operators.specs.declared.prefixes.Prefixes.{Prefixes}
use Rattle.nom_language.specs.Evaluated.{TermOutput}
use Rattle.nom_language.specs.LeftFolds as LeftFolds
use Rattle.nom_language.specs.Operators as Operators
use Rattle.nom_language.specs.Precedences as Precedences

module _ {I O E : Type 0} where
  pub unary_op_of : ℕ → Word I O E → Word I (Unary O) E
  unary_op_of precedence g = word (Operators.unary_op_of precedence g.grammar)

  module _ {g h : Word I O E} where
    pub unary_op_worded : (precedence : ℕ) → g ≡ h → unary_op_of precedence g ≡ word (Operators.unary_op_of precedence h.grammar)
    unfolding unary_op_of
    unary_op_worded precedence p = ap (unary_op_of precedence) p

    pub unary_op_same : {precedence precedence' : ℕ} → precedence ≡ precedence' → g ≡ h → unary_op_of precedence g ≡ unary_op_of precedence' h
    unary_op_same q p = ap₂ unary_op_of q p

  pub binary_op_of : ℕ → Assoc → Word I O E → Word I (Binary O) E
  binary_op_of precedence assoc g = word (Operators.binary_op_of precedence assoc g.grammar)

  module _ {g h : Word I O E} where
    pub binary_op_worded : (precedence : ℕ) (assoc : Assoc) → g ≡ h → binary_op_of precedence assoc g ≡
        word (Operators.binary_op_of precedence assoc h.grammar)
    unfolding binary_op_of
    binary_op_worded precedence assoc p = ap (binary_op_of precedence assoc) p

    pub binary_op_same : {precedence precedence' : ℕ} {assoc assoc' : Assoc} → precedence ≡ precedence' → assoc ≡ assoc' → g ≡ h →
        binary_op_of precedence assoc g ≡ binary_op_of precedence' assoc' h
    binary_op_same a b p = λ i. binary_op_of (a i) (b i) (p i)

module _ {I A O M E : Type 0} (w : Model I A) (errs : Errors I E) where
  pub prefixes_of : Word I O E → Word I (Prefixes O M) E
  prefixes_of g = word (Operators.prefixes_of w errs g.grammar)

  module _ {g h : Word I O E} where
    pub prefixes_worded : g ≡ h → prefixes_of g ≡ word (Operators.prefixes_of w errs h.grammar)
    unfolding prefixes_of
    prefixes_worded p = ap prefixes_of p

    pub prefixes_same : g ≡ h → prefixes_of g ≡ prefixes_of h
    prefixes_same p = ap prefixes_of p

-- terms with operators between them: which operations the fold takes, what it gives for each, and what that tells
module _ {I A P Q B O Y X M E : Type 0} (w : Model I A) (errs : Errors I E) (externals : Externals I X E) (Returns : Result O Y → Result O X → Type 0)
    (no_memory : Option Y) where
  pub expression_of : Mapping (Operation P Q B O) (Result O Y) → Word I (TermOutput P O Q M) E → Word I (Binary B) E → Word I O E
  expression_of m term binary = word
      (Precedences.expression_by w errs externals Returns no_memory ((x : Operation P Q B O) → m.Takes x) m.Gives term.grammar binary.grammar)

  module _ {g h : Word I (TermOutput P O Q M) E} {k l : Word I (Binary B) E} where
    pub expression_worded : (Takes : Operation P Q B O → Type 0) (Gives : Operation P Q B O → Result O Y → Type 0) → g ≡ h → k ≡ l →
        expression_of (mapping Takes Gives) g k ≡
        word (Precedences.expression_by w errs externals Returns no_memory ((x : Operation P Q B O) → Takes x) Gives h.grammar l.grammar)
    unfolding expression_of
    expression_worded Takes Gives p q = λ i. expression_of (mapping_is Takes Gives i) (p i) (q i)

    pub expression_same : {m n : Mapping (Operation P Q B O) (Result O Y)} → m ≡ n → g ≡ h → k ≡ l → expression_of m g k ≡ expression_of n h l
    expression_same t p q = λ i. expression_of (t i) (p i) (q i)

-- an expression, and then no binary operator
module _ {I A O B E : Type 0} (w : Model I A) (errs : Errors I E) where
  pub require_operands_of : Word I B E → Word I O E → Word I O E
  require_operands_of binary expression = word (Precedences.require_operands_of w errs binary.grammar expression.grammar)

  module _ {g h : Word I B E} {k l : Word I O E} where
    pub require_operands_worded : g ≡ h → k ≡ l → require_operands_of g k ≡ word (Precedences.require_operands_of w errs h.grammar l.grammar)
    unfolding require_operands_of
    require_operands_worded p q = ap₂ require_operands_of p q

    pub require_operands_same : g ≡ h → k ≡ l → require_operands_of g k ≡ require_operands_of h l
    require_operands_same p q = ap₂ require_operands_of p q

module _ {I A H O E : Type 0} (w : Model I A) (errs : Errors I E) where
  pub left_assoc_of : (O → H → O → Type 0) → (O → H → O → O → Type 0) → Word I O E → Word I H E → Word I O E
  left_assoc_of Takes Gives child operator = word
      (LeftFolds.left_assoc_by w errs ((x : O) (c : H) (y : O) → Takes x c y) Gives child.grammar operator.grammar)

  module _ {g h : Word I O E} {k l : Word I H E} where
    pub left_assoc_worded : (Takes : O → H → O → Type 0) (Gives : O → H → O → O → Type 0) → g ≡ h → k ≡ l → left_assoc_of Takes Gives g k ≡
        word (LeftFolds.left_assoc_by w errs ((x : O) (c : H) (y : O) → Takes x c y) Gives h.grammar l.grammar)
    unfolding left_assoc_of
    left_assoc_worded Takes Gives p q = ap₂ (left_assoc_of Takes Gives) p q

    pub left_assoc_same : {Takes Takes' : O → H → O → Type 0} {Gives Gives' : O → H → O → O → Type 0} → Takes ≡ Takes' → Gives ≡ Gives' → g ≡ h → k ≡ l →
        left_assoc_of Takes Gives g k ≡ left_assoc_of Takes' Gives' h l
    left_assoc_same a b p r = λ i. left_assoc_of (a i) (b i) (p i) (r i)
