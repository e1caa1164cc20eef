-- The words of combinators.
use Rattle.std.specs.Prelude.{◌≡◌, ℕ, Bool, List, Option}
use Rattle.std.specs.Borrow.{Bor}
use Rattle.std.proofs.Common.{refl, ap, ap₂}
use Rattle.nom_error.specs.Errors.{Contexts, Errors}
use Rattle.nom_traits.specs.Input.{Model}
use Rattle.nom_internal.specs.Grammar.{valued, sliced}
use Rattle.nom_internal.specs.Closures.{GivesAt, TakesAt}
use Rattle.nom_internal.specs.Word.{Word, word}
use Rattle.nom_internal.specs.Words.{Mapping, mapping, mapping_is}
use Rattle.nom_combinator.specs.Conditions as Conditions
use Rattle.nom_combinator.specs.Contexts as Contexts
use Rattle.nom_combinator.specs.Ends as Ends
use Rattle.nom_combinator.specs.Outputs as Outputs
use Rattle.nom_combinator.specs.Verdicts as Verdicts

module _ {I O E : Type 0} where
  pub cut_of : Word I O E → Word I O E
  cut_of g = word (Verdicts.cut_of g.grammar)

  module _ {g h : Word I O E} where
    pub cut_worded : g ≡ h → cut_of g ≡ word (Verdicts.cut_of h.grammar)
    unfolding cut_of
    cut_worded p = ap cut_of p

    pub cut_same : g ≡ h → cut_of g ≡ cut_of h
    cut_same p = ap cut_of p

  pub opt_of : Word I O E → Word I (Option O) E
  opt_of g = word (Verdicts.opt_of g.grammar)

  module _ {g h : Word I O E} where
    pub opt_worded : g ≡ h → opt_of g ≡ word (Verdicts.opt_of h.grammar)
    unfolding opt_of
    opt_worded p = ap opt_of p

    pub opt_same : g ≡ h → opt_of g ≡ opt_of h
    opt_same p = ap opt_of p

  pub peek_of : Word I O E → Word I O E
  peek_of g = word (Verdicts.peek_of g.grammar)

  module _ {g h : Word I O E} where
    pub peek_worded : g ≡ h → peek_of g ≡ word (Verdicts.peek_of h.grammar)
    unfolding peek_of
    peek_worded p = ap peek_of p

    pub peek_same : g ≡ h → peek_of g ≡ peek_of h
    peek_same p = ap peek_of p

  -- a part that runs where b is true
  pub cond_of : Bool → Word I O E → Word I (Option O) E
  cond_of b g = word (Conditions.cond_of b g.grammar)

  module _ {g h : Word I O E} where
    pub cond_worded : (b : Bool) → g ≡ h → cond_of b g ≡ word (Conditions.cond_of b h.grammar)
    unfolding cond_of
    cond_worded b p = ap (cond_of b) p

    pub cond_same : {b b' : Bool} → b ≡ b' → g ≡ h → cond_of b g ≡ cond_of b' h
    cond_same q p = ap₂ cond_of q p

module _ {I O E : Type 0} (errs : Errors I E) where
  pub not_of : Word I O E → Word I (Unit {0}) E
  not_of g = word (Verdicts.not_of errs g.grammar)

  module _ {g h : Word I O E} where
    pub not_worded : g ≡ h → not_of g ≡ word (Verdicts.not_of errs h.grammar)
    unfolding not_of
    not_worded p = ap not_of p

    pub not_same : g ≡ h → not_of g ≡ not_of h
    not_same p = ap not_of p

  pub complete_of : Word I O E → Word I O E
  complete_of g = word (Verdicts.complete_of errs g.grammar)

  module _ {g h : Word I O E} where
    pub complete_worded : g ≡ h → complete_of g ≡ word (Verdicts.complete_of errs h.grammar)
    unfolding complete_of
    complete_worded p = ap complete_of p

    pub complete_same : g ≡ h → complete_of g ≡ complete_of h
    complete_same p = ap complete_of p

  -- those of the outputs that a closure on references accepts
  pub verify_of : Mapping (Bor O) Bool → Word I O E → Word I O E
  verify_of m g = word (Outputs.verify_by errs (TakesAt m.Takes) (GivesAt m.Gives) g.grammar)

  module _ {g h : Word I O E} where
    pub verify_worded : (Takes : Bor O → Type 0) (Gives : Bor O → Bool → Type 0) → g ≡ h → verify_of (mapping Takes Gives) g ≡
        word (Outputs.verify_by errs (TakesAt Takes) (GivesAt Gives) h.grammar)
    unfolding verify_of
    verify_worded Takes Gives p = ap₂ verify_of (mapping_is Takes Gives) p

    pub verify_same : {m n : Mapping (Bor O) Bool} → m ≡ n → g ≡ h → verify_of m g ≡ verify_of n h
    verify_same q p = ap₂ verify_of q p

module _ {I O E : Type 0} (contexts : Contexts I E) where
  pub context_of : List ℕ → Word I O E → Word I O E
  context_of name g = word (Contexts.context_of contexts name g.grammar)

  module _ {g h : Word I O E} where
    pub context_worded : (name : List ℕ) → g ≡ h → context_of name g ≡ word (Contexts.context_of contexts name h.grammar)
    unfolding context_of
    context_worded name p = ap (context_of name) p

    pub context_same : {name name' : List ℕ} → name ≡ name' → g ≡ h → context_of name g ≡ context_of name' h
    context_same q p = ap₂ context_of q p

module _ {I A O E : Type 0} (w : Model I A) where
  pub recognize_of : Word I O E → Word I I E
  recognize_of g = word (Verdicts.recognize_of w g.grammar)

  module _ {g h : Word I O E} where
    pub recognize_worded : g ≡ h → recognize_of g ≡ word (Verdicts.recognize_of w h.grammar)
    unfolding recognize_of
    recognize_worded p = ap recognize_of p

    pub recognize_same : g ≡ h → recognize_of g ≡ recognize_of h
    recognize_same p = ap recognize_of p

  pub consumed_of : Word I O E → Word I (I × O) E
  consumed_of g = word (Verdicts.consumed_of w g.grammar)

  module _ {g h : Word I O E} where
    pub consumed_worded : g ≡ h → consumed_of g ≡ word (Verdicts.consumed_of w h.grammar)
    unfolding consumed_of
    consumed_worded p = ap consumed_of p

    pub consumed_same : g ≡ h → consumed_of g ≡ consumed_of h
    consumed_same p = ap consumed_of p

module _ {I A O E : Type 0} (w : Model I A) (errs : Errors I E) where
  pub all_consuming_of : Word I O E → Word I O E
  all_consuming_of g = word (Ends.all_consuming_of w errs g.grammar)

  module _ {g h : Word I O E} where
    pub all_consuming_worded : g ≡ h → all_consuming_of g ≡ word (Ends.all_consuming_of w errs h.grammar)
    unfolding all_consuming_of
    all_consuming_worded p = ap all_consuming_of p

    pub all_consuming_same : g ≡ h → all_consuming_of g ≡ all_consuming_of h
    all_consuming_same p = ap all_consuming_of p

module _ {I A E : Type 0} (w : Model I A) (errs : Errors I E) where
  pub eof_of : Word I I E
  eof_of = word (sliced w (Ends.eof_meaning w errs))

  pub eof_worded : eof_of ≡ word (sliced w (Ends.eof_meaning w errs))
  unfolding eof_of
  eof_worded = refl

module _ {I A E : Type 0} (w : Model I A) where
  pub rest_of : Word I I E
  rest_of = word (sliced w (Ends.rest_meaning w))

  pub rest_worded : rest_of ≡ word (sliced w (Ends.rest_meaning w))
  unfolding rest_of
  rest_worded = refl

  pub rest_len_of : Word I ℕ E
  rest_len_of = word (valued (Ends.rest_len_meaning w))

  pub rest_len_worded : rest_len_of ≡ word (valued (Ends.rest_len_meaning w))
  unfolding rest_len_of
  rest_len_worded = refl

module _ {I O E : Type 0} (errs : Errors I E) where
  pub fail_of : Word I O E
  fail_of = word (valued (Ends.fail_meaning errs))

  pub fail_worded : fail_of ≡ word (valued (Ends.fail_meaning errs))
  unfolding fail_of
  fail_worded = refl

-- a clone of a value: which values are clones of which, and what makes it sure that memory is found for one of this value
module _ {I O E Q : Type 0} (IsClone : Q → Q → Type 0) where
  pub value_of : Q → Type 0 → Word I O E → Word I Q E
  value_of value IsSure g = word (Outputs.value_by value IsSure (IsClone value) g.grammar)

  module _ {g h : Word I O E} where
    pub value_worded : (value : Q) (IsSure : Type 0) → g ≡ h → value_of value IsSure g ≡ word (Outputs.value_by value IsSure (IsClone value) h.grammar)
    unfolding value_of
    value_worded value IsSure p = ap (value_of value IsSure) p

    pub value_same : {value value' : Q} {IsSure IsSure' : Type 0} → value ≡ value' → IsSure ≡ IsSure' → g ≡ h →
        value_of value IsSure g ≡ value_of value' IsSure' h
    value_same a b p = λ i. value_of (a i) (b i) (p i)

module _ {I E Q : Type 0} (IsClone : Q → Q → Type 0) where
  pub success_of : Q → Type 0 → Word I Q E
  success_of value IsSure = word (record { meaning = Ends.clone_meaning value IsSure; IsOutput = λ _. IsClone value })

  pub success_worded : (value : Q) (IsSure : Type 0) → success_of value IsSure ≡
      word (record { meaning = Ends.clone_meaning value IsSure; IsOutput = λ _. IsClone value })
  unfolding success_of
  success_worded value IsSure = refl

  pub success_same : {value value' : Q} {IsSure IsSure' : Type 0} → value ≡ value' → IsSure ≡ IsSure' →
      success_of value IsSure ≡ success_of value' IsSure'
  success_same p q = ap₂ success_of p q
