-- The results that are told of what was read.
use Rattle.std.specs.Prelude.{◌≡◌, ℕ, Bool, true, List, [], ◌∷◌, Option, Some, None, length}
use Rattle.std.specs.List.{AllZip}
use Rattle.nom.specs.Prelude.{PResult, Built, Modes, with_outputs, Errors, Grammar, Model, ShowsAnswer, Meaning}
use Rattle.nom_operators.specs.Groups.{groups_left}
use Rattle.nom_operators.specs.Steps.{Made}
use Rattle.nom_operators.specs.declared.operation.Assoc.{Assoc}
use Rattle.nom_operators.specs.declared.operation.Operation.{Operation}
use Rattle.nom_operators.specs.declared.operation.Operation.TheVariants.{Prefix, Postfix, Binary}
use Rattle.nom_precedence.specs.Chains.{chain_meaning}
use Rattle.nom_precedence.specs.Expressions.{Term, Tail, Pair, affixes_meaning, tail_meaning, term_meaning, operator_pair_meaning, read_meaning}
use Rattle.nom_precedence.specs.Operators.{HasLevel, operator_meaning}
use Rattle.nom_precedence.specs.Values.{IsOwn, StandsFor, TailBy, TermBy, folding}
use Rattle.nom_precedence.specs.declared.read.Read.{Read}
use Rattle.nom_precedence.specs.declared.read.Read.TheVariants.{Whole, Stuck}

-- what was read whole, with what is built of it; or that it is stuck
pub data IsRead {V X : Type 0} (builds : Bool) (IsOutput : V → X → Type 0) (u : Read V) (r : Read (Option X)) : Type 0 where
  IsWhole : (v : V) (x : Option X) → u ≡ Whole v → r ≡ Whole x → Built builds (IsOutput v) x → IsRead builds IsOutput u r
  IsStuck : u ≡ Stuck → r ≡ Stuck → IsRead builds IsOutput u r

-- what a part answers whose output is told in every mode
abbrev pub ShowsBuilt : {I A V O E : Type 0} → Model I A → (V → O → Type 0) → Meaning I V E → Modes → I → PResult I O E → Type 0
ShowsBuilt w IsOutput m mode i r =
    ShowsAnswer w IsOutput (with_outputs true mode) i (m.answers mode.streaming i) (m.blames mode.streaming i) (m.may_run_out mode i) r

-- the grammar of a part that may be stuck: what it means, and which outputs a tree that was read whole stands for
pub record Reading (I V X E : Type 0) : Type 1 where
  pub meaning : Meaning I (Read V) E
  pub IsOutput : V → X → Type 0

-- what such a part answers: whether it is stuck is told in every mode
abbrev pub ShowsRead : {I A V X E : Type 0} → Model I A → Reading I V X E → Modes → I → PResult I (Read (Option X)) E → Type 0
ShowsRead w g mode i r = ShowsBuilt w (IsRead mode.outputs g.IsOutput) g.meaning mode i r

-- the states of the four parts are kept
pub record AreKept {S T U R : Type 0} (a x : S) (b y : T) (c z : U) (d v : R) : Type 0 where
  pub prefix : a ≡ x
  pub operand : b ≡ y
  pub postfix : c ≡ z
  pub binary : d ≡ v

-- What one more postfix makes of a value: the fold's value for both.
pub record AppliedPushes {K L X Q : Type 0} (value : K → Option X) (fold : K → L) (Gives : L → X → Q → X → Type 0) (old : K) (item : Q) (new : K) : Type 0 where
  pub before : X
  pub rest : X
  pub before_is : value old ≡ Some before
  pub after_is : value new ≡ Some rest
  pub given : Gives (fold old) before item rest
  pub fold_is : fold new ≡ fold old

-- Prefixes are applied to a value, the last first.
abbrev pub Before : {P X : Type 0} → (P → X → X → Type 0) → List P → X → X → Type 0
Before Gives [] x y = y ≡ x
Before {X = X} Gives (p ∷ ps) x y = (z : X) × Before Gives ps x z × Gives p z y

-- an operator with its level, and the value of the term after it
abbrev pub IsPairOf : {B H T O : Type 0} → (B → ℕ × H → Type 0) → (T → O → Type 0) → (ℕ × B) × T → (ℕ × H) × O → Type 0
IsPairOf IsBinary IsValue t o = IsOwn IsBinary t.0 o.0 × IsValue t.1 o.1

-- the fact holds of a first value, and of the outputs of pairs after it
pub record OfPairs {X C V : Type 0} (IsPair : V → C × X → Type 0) (before : Option X) (vs : List V) (Fact : X → List (C × X) → Type 0) : Type 0 where
  pub first : X
  pub first_is : before ≡ Some first
  pub outputs : List (C × X)
  pub are_outputs : AllZip IsPair vs outputs
  pub fact : Fact first outputs

-- the binary operators alone, each with its level
abbrev pub operator_of : {I B H E : Type 0} → Errors I E → ℕ → Grammar I B (ℕ × H) E → Grammar I (ℕ × B) (ℕ × H) E
operator_of errs levels binary =
    record { meaning = operator_meaning errs (HasLevel binary.IsOutput (λ o. o.0)) levels binary.meaning; IsOutput = IsOwn binary.IsOutput }

module _ {I A E : Type 0} (w : Model I A) where
  -- as many items of a part as are accepted, where it may take memory to keep them
  abbrev pub affixes_by : {V O K : Type 0} → Type 0 → (List V → K → Type 0) → Grammar I V O E → Reading I (List V) K E
  affixes_by Grows IsOutput part = record { meaning = affixes_meaning w Grows part.meaning; IsOutput = IsOutput }

  -- an operand, and the postfixes after it
  abbrev pub tail_by : {V O Q G : Type 0} → Grammar I V O E → Grammar I Q G E → (O → G → O → Type 0) → Reading I (Tail V Q) O E
  tail_by operand postfix OnPostfix =
      record { meaning = tail_meaning w operand.meaning postfix.meaning; IsOutput = TailBy operand.IsOutput postfix.IsOutput OnPostfix }

  -- a term
  abbrev pub term_by : {P F V O Q G H : Type 0} → Grammar I P F E → Grammar I V O E → Grammar I Q G E → (Operation F G H O → O → Type 0) →
      Reading I (Term P V Q) O E
  term_by prefix operand postfix Gives = record {
    meaning = term_meaning w prefix.meaning operand.meaning postfix.meaning;
    IsOutput = TermBy prefix.IsOutput operand.IsOutput postfix.IsOutput (λ c x. Gives (Prefix c x)) (λ x c. Gives (Postfix x c));
  }

  -- an operator, and a term after it
  abbrev pub pair_by : {B H T O : Type 0} → Errors I E → ℕ → Grammar I B (ℕ × H) E → Reading I T O E → Reading I (Pair B T) ((ℕ × H) × O) E
  pair_by errs levels binary term =
      record { meaning = operator_pair_meaning w (operator_of errs levels binary).meaning term.meaning; IsOutput = IsPairOf binary.IsOutput term.IsOutput }

  -- as many pairs as are accepted, after a first value
  abbrev pub pairs_by : {V F G H O : Type 0} → (ℕ → Bool) → (Operation F G H O → O → Type 0) → Option O → Reading I V ((ℕ × H) × O) E → Reading I (List V) O E
  pairs_by left Gives before pair = record {
    meaning = chain_meaning w (Unit {0}) pair.meaning;
    IsOutput = λ vs y. OfPairs pair.IsOutput before vs (λ x os. Made left (λ c. c.0) (λ x c y z. Gives (Binary x c.1 y) z) x os y);
  }

  -- a first term, and as many pairs
  abbrev pub whole_by : {P F V O Q G B H : Type 0} → Errors I E → List Assoc → Grammar I P F E → Grammar I V O E → Grammar I Q G E →
      Grammar I B (ℕ × H) E → (Operation F G H O → O → Type 0) → Reading I (Term P V Q × List (Pair B (Term P V Q))) O E
  whole_by errs levels prefix operand postfix binary Gives = record {
    meaning = read_meaning w errs (operator_of errs (length levels) binary).meaning (term_by prefix operand postfix Gives).meaning;
    IsOutput = λ e y. StandsFor (folding prefix.IsOutput operand.IsOutput postfix.IsOutput binary.IsOutput Gives) (groups_left levels) e.0 e.1 y;
  }
