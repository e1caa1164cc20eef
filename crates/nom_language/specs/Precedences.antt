-- Expressions: terms with operators between them, and a fold that may refuse.
use Rattle.std.specs.Prelude.{◌≡◌, ◌<◌, ℕ, ◌⊎◌, Bool, List, Option, Some, None, Result, Ok, Err, is_ok, length}
use Rattle.nom_error.specs.Errors.{Errors, Externals}
use Rattle.nom_error.specs.declared.kind.ErrorKind.TheVariants as Kind
use Rattle.nom_internal.specs.Prelude.{Grammar, Meaning, Model, Accept, IsJudge, closed_meaning, judged_meaning, sequence_meaning, premised, OfError}
use Rattle.nom_combinator.specs.Verdicts.{not_meaning}
use Rattle.nom_repeat.specs.Bounds.{any_limits}
use Rattle.nom_repeat.specs.Items.{items_meaning}
use Rattle.nom_internal.specs.Tuples.{built_meaning}
use Rattle.nom_internal.specs.Sequence.{pair_meaning}
use Rattle.nom_operators.specs.Prefixes.{prefixes_in}
use Rattle.nom_operators.specs.declared.operation.Operation.{Operation}
use Rattle.nom_operators.specs.declared.precedences.Binary.{Binary}
use Rattle.nom_language.specs.Evaluated.{TermOutput, IsEvaluated}

-- an acceptance of some length, with some tree
pub record AcceptsAt {I V E : Type 0} (m : Meaning I V E) (streaming : Bool) (i : I) : Type 0 where
  pub length : ℕ
  pub tree : V
  pub accepted : m.answers streaming i (Accept length tree)

-- an acceptance of a tree for which there is no memory
pub record LacksAt {I V E : Type 0} (Lacks : V → Type 0) (m : Meaning I V E) (streaming : Bool) (i : I) : Type 0 where
  pub accepts : AcceptsAt m streaming i
  pub lacks : Lacks accepts.tree

-- a meaning where memory may run out for what a part accepts too
abbrev pub lacking_meaning : {I V W E : Type 0} → (V → Type 0) → Meaning I V E → Meaning I W E → Meaning I W E
lacking_meaning {V = V} Lacks part m = record m {
  may_run_out = λ mode i. m.may_run_out mode i ⊎ LacksAt Lacks part mode.streaming i;
  IsFrugal = λ mode. m.IsFrugal mode × ((v : V) → Lacks v → ⊥);
}

-- if an error of the fold says that memory ran out: a meaning where it may run out for the trees for which the fold gives that error
abbrev pub lacking_if : {I V O Y E : Type 0} → Option Y → (V → Result O Y → Type 0) → Meaning I V E → Meaning I V E → Meaning I V E
lacking_if None Evaluates part m = m
lacking_if (Some e) Evaluates part m = lacking_meaning (λ t. Evaluates t (Err e)) part m

-- Two prefixes or more of a term wait for its operand. The last of them takes no memory.
abbrev pub PrefixesWait : {T P O Q M : Type 0} → (T → TermOutput P O Q M → Type 0) → T → Type 0
PrefixesWait {P = P} {O = O} {Q = Q} {M = M} IsTerm t = (o : TermOutput P O Q M) × IsTerm t o × (1 < length (prefixes_in o.0))

-- a binary operator and a term after it, as a tuple
abbrev pub operator_and_term_meaning : {I A C T E : Type 0} → Model I A → Meaning I C E → Meaning I T E → Meaning I (C × T) E
operator_and_term_meaning w binary term = built_meaning (pair_meaning w binary term)

-- A first term, to whose refusal `Precedence` is added at the start; and then pairs, as many as are accepted. Where an operator or its
-- term is refused, the pairs end before that operator. A pair that consumes nothing is refused. What waits takes memory: of the first
-- term its prefixes, and then operators.
abbrev pub terms_meaning : {I A T C E : Type 0} → Model I A → Errors I E → (Waits : T → Type 0) → Meaning I T E → Meaning I C E →
    Meaning I (T × List (C × T)) E
terms_meaning w errs Waits term binary = lacking_meaning Waits term (sequence_meaning w (λ t ps. (t, ps)) (λ o. o) (λ o. o)
    (closed_meaning (λ i. errs.appended i Kind.Precedence) errs.grows term)
    (items_meaning w errs (any_limits Kind.Precedence) (Unit {0}) (operator_and_term_meaning w binary term)))

-- what was evaluated stands for itself
abbrev pub Itself : {R : Type 0} → R → R → Type 0
Itself r s = s ≡ r

-- What is read is evaluated in every mode, by what a tree stands for: a refusal of the fold refuses it, at the start. Memory runs out too
-- where the fold says so. The premise of the laws is that the fold either refuses all that a tree stands for, or nothing, memory aside.
abbrev pub evaluated_meaning : {I A T C O Y X E : Type 0} → Model I A → Errors I E → Externals I X E → (CanFold : Type 0) →
    (Returns : Result O Y → Result O X → Type 0) → (no_memory : Option Y) → (Waits : T → Type 0) → (T × List (C × T) → Result O Y → Type 0) →
    Meaning I T E → Meaning I C E → Meaning I (T × List (C × T)) E
evaluated_meaning w errs externals CanFold Returns no_memory Waits Evaluates term binary =
    premised (term.Runs × binary.Runs × CanFold) (term.IsSound × binary.IsSound × IsJudge Evaluates Returns is_ok)
    (lacking_if no_memory Evaluates (terms_meaning w errs Waits term binary)
    (judged_meaning Evaluates (λ _. Unit {0}) Returns is_ok (λ i. OfError (externals.of_external i Kind.Precedence)) externals.grows
    (terms_meaning w errs Waits term binary)))

-- an expression, by the grammars of its terms and of its binary operators, by what the fold gives for each operation, and what that tells
abbrev pub expression_by : {I A T C P Q B O Y X M E : Type 0} → Model I A → Errors I E → Externals I X E → (Result O Y → Result O X → Type 0) →
    Option Y → (CanFold : Type 0) → (Operation P Q B O → Result O Y → Type 0) → Grammar I T (TermOutput P O Q M) E → Grammar I C (Binary B) E →
    Grammar I (T × List (C × T)) O E
expression_by w errs externals Returns no_memory CanFold Gives term binary = record {
  meaning = evaluated_meaning w errs externals CanFold Returns no_memory (PrefixesWait term.IsOutput)
      (IsEvaluated term.IsOutput binary.IsOutput Gives) term.meaning binary.meaning;
  IsOutput = λ e y. IsEvaluated term.IsOutput binary.IsOutput Gives e (Ok y);
}

-- an expression, and then no operator: so each operator has its operands
abbrev pub require_operands_of : {I A H T O B E : Type 0} → Model I A → Errors I E → Grammar I H B E → Grammar I T O E → Grammar I T O E
require_operands_of w errs binary expression = record {
  meaning = premised expression.meaning.Runs expression.meaning.IsSound (sequence_meaning w (λ e _. e) (λ o. o) (λ o. o) expression.meaning
      (not_meaning (λ i. errs.of_kind i Kind.Precedence) errs.grows binary.meaning));
  IsOutput = expression.IsOutput;
}
