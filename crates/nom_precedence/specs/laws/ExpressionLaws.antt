-- The laws of expressions, by those of their parts.
use Rattle.std.specs.Prelude.{◌≡◌, ℕ, true}
use Rattle.nom.specs.Prelude.{Errors, Model, InputLaws, Meaning, IsLawful, IsSteady, IsOne}
use Rattle.nom.specs.CaseLaws.{labelled_lawful, labelled_steady, closed_lawful, closed_steady}
use Rattle.nom_precedence.specs.laws.StuckLaws.{both_lawful, both_steady, freed_lawful, freed_steady, next_lawful, next_steady}
use Rattle.nom_precedence.specs.laws.ChainLaws.{chain_lawful, chain_steady}
use Rattle.nom_precedence.specs.Operators.{operator_meaning}
use Rattle.nom_precedence.specs.laws.OperatorLaws.{operator_lawful, operator_steady}
use Rattle.nom_precedence.specs.Premises.{Gives, told_lawful, told_steady}
use Rattle.nom_precedence.specs.Expressions.{term_meaning, expression_meaning, premises, precedence_meaning}

module _ {I A P V Q E : Type 0} {w : Model I A} (l : InputLaws w) {prefix : Meaning I P E} {operand : Meaning I V E} {postfix : Meaning I Q E} where
  pub term_lawful : IsLawful w prefix → IsLawful w operand → IsLawful w postfix → IsLawful w (term_meaning w prefix operand postfix)
  term_lawful p q r = both_lawful l (chain_lawful l (labelled_lawful p)) (next_lawful l q (chain_lawful l (labelled_lawful r)))

  pub term_steady : IsSteady w prefix → IsSteady w operand → IsSteady w postfix → IsSteady w (term_meaning w prefix operand postfix)
  term_steady p q r = both_steady l (chain_steady l (labelled_steady p)) (next_steady l q (chain_steady l (labelled_steady r)))

module _ {I A P V Q B E : Type 0} (w : Model I A) (l : InputLaws w) (errs : Errors I E) (CanFold : Type 0) (IsLevel : B → ℕ → Type 0) (levels : ℕ)
    (prefix : Meaning I P E) (operand : Meaning I V E) (postfix : Meaning I Q E) (binary : Meaning I B E) where
  -- the premises that are told give those that are gathered
  told : Gives (premises errs CanFold IsLevel prefix operand postfix binary)
      (expression_meaning w errs (operator_meaning errs IsLevel levels binary) (term_meaning w prefix operand postfix))
  told = record {
    frugal = λ mode h.
        let no : mode.outputs ≡ true → Unit {0} → ⊥ = λ e _. h.0 e in
        let none : mode.outputs ≡ true → ⊥ → ⊥ = λ _ x. x in
        let grows : mode.errors ≡ true → errs.grows → ⊥ = λ _ g. h.1 g in
        (((((h.2, no), (h.3, (h.5, none))), grows), (((h.6, h.1), ((h.2, no), (h.4, (h.5, none)))), no)), grows);
    settles = λ h. ((h.0, (h.1, h.2)), (h.3, (h.0, (h.1, h.2))));
    never_fails = λ cause h. ((h.0, (h.1, h.2)), ((h.3, h.4), (h.0, (h.1, h.2))));
  }

module _ {I A P V Q B E : Type 0} {w : Model I A} (l : InputLaws w) (errs : Errors I E) {CanFold : Type 0} {IsLevel : B → ℕ → Type 0} (levels : ℕ)
    (one : IsOne IsLevel) {prefix : Meaning I P E} {operand : Meaning I V E} {postfix : Meaning I Q E} {binary : Meaning I B E} where
  pub precedence_lawful : IsLawful w prefix → IsLawful w operand → IsLawful w postfix → IsLawful w binary →
      IsLawful w (precedence_meaning w errs CanFold IsLevel levels prefix operand postfix binary)
  precedence_lawful p q r s =
      let t : IsLawful w (term_meaning w prefix operand postfix) = term_lawful l p q r in
      told_lawful (told w l errs CanFold IsLevel levels prefix operand postfix binary)
      (freed_lawful errs (both_lawful l (closed_lawful t) (chain_lawful l (next_lawful l (operator_lawful errs levels one s) t))))

  pub precedence_steady : IsSteady w prefix → IsSteady w operand → IsSteady w postfix → IsSteady w binary →
      IsSteady w (precedence_meaning w errs CanFold IsLevel levels prefix operand postfix binary)
  precedence_steady p q r s =
      let t : IsSteady w (term_meaning w prefix operand postfix) = term_steady l p q r in
      told_steady (freed_steady errs (both_steady l (closed_steady t) (chain_steady l (next_steady l (operator_steady errs levels one s) t))))
