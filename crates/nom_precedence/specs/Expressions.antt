-- Expressions: terms with operators between them.
use Rattle.std.specs.Prelude.{◌≡◌, ℕ, true, false, List}
use Rattle.nom.specs.Prelude.{Errors, with_errors, with_outputs, Model, Meaning, IsOne, labelled_meaning, closed_meaning, TooLarge}
use Rattle.nom.specs.ErrorKind.TheVariants as Kind
use Rattle.nom_precedence.specs.Premises.{Premises, with_premises}
use Rattle.nom_precedence.specs.Stuck.{read_both, read_next, freed_meaning}
use Rattle.nom_precedence.specs.declared.read.Read.{Read}
use Rattle.nom_precedence.specs.declared.read.Read.TheVariants.{Whole}
use Rattle.nom_precedence.specs.Chains.{chain_meaning}
use Rattle.nom_precedence.specs.Operators.{operator_meaning}

-- a term: operators before an operand, in the order in which they stand, and operators after it
pub record Term (P V Q : Type 0) : Type 0 where
  pub prefixes : List P
  pub operand : V
  pub postfixes : List Q

-- the operand with what stands after it
abbrev pub Tail : Type 0 → Type 0 → Type 0
Tail V Q = V × List Q

abbrev pub term_of : {P V Q : Type 0} → List P → Tail V Q → Term P V Q
term_of ps t = record { prefixes = ps; operand = t.0; postfixes = t.1 }

-- as many items of a part as are accepted, where it may take memory to keep them
abbrev pub affixes_meaning : {I A V E : Type 0} → Model I A → Type 0 → Meaning I V E → Meaning I (Read (List V)) E
affixes_meaning w Grows m = chain_meaning w Grows (labelled_meaning Whole m)

-- an operand, and as many postfixes
abbrev pub tail_meaning : {I A V Q E : Type 0} → Model I A → Meaning I V E → Meaning I Q E → Meaning I (Read (Tail V Q)) E
tail_meaning w operand postfix = read_next w (λ v qs. (v, qs)) operand (affixes_meaning w ⊥ postfix)

-- A term. As many prefixes as are accepted, an operand, and as many postfixes. It is refused where its operand is. Prefixes are
-- kept where outputs are built, which may take memory.
abbrev pub term_meaning : {I A P V Q E : Type 0} → Model I A → Meaning I P E → Meaning I V E → Meaning I Q E → Meaning I (Read (Term P V Q)) E
term_meaning w prefix operand postfix = read_both w term_of (affixes_meaning w (Unit {0}) prefix) (tail_meaning w operand postfix)

-- an operator with its level, and a term after it
abbrev pub Pair : Type 0 → Type 0 → Type 0
Pair B T = (ℕ × B) × T

abbrev pub operator_pair_meaning : {I A T B E : Type 0} → Model I A → Meaning I (ℕ × B) E → Meaning I (Read T) E → Meaning I (Read (Pair B T)) E
operator_pair_meaning w operator term = read_next w (λ o t. (o, t)) operator term

-- A first term, to whose refusal `Precedence` is added at the start; and then pairs of an operator and a term, as many as are accepted.
-- Where an operator or its term is refused, the pairs end before that operator. All is read whole, or an item is stuck.
abbrev pub read_meaning : {I A T B E : Type 0} → Model I A → Errors I E → Meaning I (ℕ × B) E → Meaning I (Read T) E → Meaning I (Read (T × List (Pair B T))) E
read_meaning w errs operator term = read_both w (λ t ps. (t, ps)) (closed_meaning (λ i. errs.appended i Kind.Precedence) errs.grows term)
    (chain_meaning w (Unit {0}) (operator_pair_meaning w operator term))

-- What is read whole is accepted. Where an item is stuck, the expression is refused there.
abbrev pub expression_meaning : {I A T B E : Type 0} → Model I A → Errors I E → Meaning I (ℕ × B) E → Meaning I (Read T) E → Meaning I (T × List (Pair B T)) E
expression_meaning w errs operator term = freed_meaning w errs (read_meaning w errs operator term)

-- The premises of all, told at once. Its parts are sound, each tree of an operator stands for one level, and the fold may be called. It
-- is frugal where outputs aren't built. Errors of refusals are built for the first operand alone. An operator's output is always built.
abbrev pub premises : {I P V Q B E : Type 0} → Errors I E → Type 0 → (B → ℕ → Type 0) → Meaning I P E → Meaning I V E → Meaning I Q E → Meaning I B E → Premises
premises errs CanFold IsLevel prefix operand postfix binary = record {
  Runs = prefix.Runs × operand.Runs × postfix.Runs × binary.Runs × CanFold;
  IsSound = prefix.IsSound × operand.IsSound × postfix.IsSound × binary.IsSound × IsOne IsLevel;
  IsFrugal = λ mode.
      (mode.outputs ≡ true → ⊥)
      × (errs.grows → ⊥)
      × prefix.IsFrugal (with_errors false mode)
      × operand.IsFrugal mode
      × operand.IsFrugal (with_errors false mode)
      × postfix.IsFrugal (with_errors false mode)
      × binary.IsFrugal (with_outputs true (with_errors false mode));
  Settles = prefix.Settles × operand.Settles × postfix.Settles × binary.Settles;
  NeverFails = λ cause. prefix.NeverFails cause × operand.NeverFails cause × postfix.NeverFails cause × binary.NeverFails cause × (cause ≡ TooLarge);
}

-- What `precedence` means, by the number of levels.
abbrev pub precedence_meaning : {I A P V Q B E : Type 0} → Model I A → Errors I E → Type 0 → (B → ℕ → Type 0) → ℕ → Meaning I P E → Meaning I V E →
    Meaning I Q E → Meaning I B E → Meaning I (Term P V Q × List (Pair B (Term P V Q))) E
precedence_meaning w errs CanFold IsLevel levels prefix operand postfix binary =
    with_premises (premises errs CanFold IsLevel prefix operand postfix binary)
    (expression_meaning w errs (operator_meaning errs IsLevel levels binary) (term_meaning w prefix operand postfix))
