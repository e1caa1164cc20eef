-- An operator with its level.
use Rattle.std.specs.Prelude.{◌≡◌, ◌⊎◌, ℕ, Bool, true, false, ltb}
use Rattle.nom.specs.Prelude.{Errors, with_outputs, Outcome, Accept, Refuse, Stop, Fails, IsFault, Outright, Meaning, OfValue, IsOne, Case, case_meaning}
use Rattle.nom.specs.Prelude.{Passes, plain_case, TooLarge}
use Rattle.nom.specs.ErrorKind.TheVariants as Kind

-- a tree stands for a level: an output of it has that level
pub record HasLevel {P O : Type 0} (IsOutput : P → O → Type 0) (level : O → ℕ) (u : P) (k : ℕ) : Type 0 where
  pub output : O
  pub is_output : IsOutput u output
  pub level_is : level output ≡ k

-- the operator with its level, where there is that level, and else a failure
abbrev pub if_level : {P : Type 0} → Bool → ℕ → ℕ → P → Outcome (ℕ × P)
if_level true n k u = Accept n (k, u)
if_level false n k u = Stop (Fails Outright)

-- of an acceptance of a level that isn't there the fact holds
abbrev pub IfNoLevel : {P : Type 0} → (P → ℕ → Type 0) → ℕ → Type 0 → Outcome P → Type 0
IfNoLevel IsLevel levels Fact (Accept n u) = OfValue (IsLevel u) (λ k. (ltb k levels ≡ false) × Fact)
IfNoLevel IsLevel levels Fact Refuse = ⊥
IfNoLevel IsLevel levels Fact (Stop why) = ⊥

-- An operator is read with its level, so its output is always built. A level that isn't there is a failure at the operator, with its
-- error, whatever is built. It is a premise that each tree stands for one level.
abbrev pub operator_case : {I P E : Type 0} → Errors I E → (P → ℕ → Type 0) → ℕ → Case I I P (ℕ × P) E E
operator_case errs IsLevel levels =
    record (plain_case (λ _. true) (λ i. Passes (λ n u o. OfValue (IsLevel u) (λ k. o ≡ if_level (ltb k levels) n k u)))) {
      Blames = λ i a P e. IfNoLevel IsLevel levels (errs.of_kind i Kind.Precedence e) a ⊎ (IsFault a × P e);
      Asks = λ mode i. IfNoLevel IsLevel levels errs.grows;
      IsSound = λ Part. Part × IsOne IsLevel;
      IsFrugal = λ Part mode. Part (with_outputs true mode) × (errs.grows → ⊥);
      NeverFails = λ Part cause. Part cause × (cause ≡ TooLarge);
    }

abbrev pub operator_meaning : {I P E : Type 0} → Errors I E → (P → ℕ → Type 0) → ℕ → Meaning I P E → Meaning I (ℕ × P) E
operator_meaning errs IsLevel levels m = case_meaning (operator_case errs IsLevel levels) m
