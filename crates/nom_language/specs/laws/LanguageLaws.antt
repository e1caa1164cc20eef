-- The laws of expressions, and of items that are folded from the left, by those of their parts.
use Rattle.std.specs.Prelude.{List, Option, Some, None, Result, is_ok}
use Rattle.std.proofs.Common.{inl, inr}
use Rattle.nom_error.specs.Errors.{Errors, Externals}
use Rattle.nom_internal.specs.Prelude.{Meaning, Model, Modes, InputLaws, IsLawful}
use Rattle.nom_internal.specs.Prelude.{IsSteady, IsJudge, premised, premised_lawful, premised_steady, sequence_meaning}
use Rattle.nom_internal.specs.laws.CaseLaws.{closed_lawful, closed_steady}
use Rattle.nom_internal.specs.laws.JudgedLaws.{judged_lawful, judged_steady}
use Rattle.nom_internal.specs.laws.SequenceLaws.{sequence_lawful, sequence_steady}
use Rattle.nom_internal.specs.laws.TupleLaws.{built_lawful, pair_lawful, built_steady, pair_steady}
use Rattle.nom_error.specs.declared.kind.ErrorKind.TheVariants as Kind
use Rattle.nom_combinator.specs.Verdicts.{not_meaning}
use Rattle.nom_combinator.specs.laws.VerdictLaws.{not_lawful, not_steady}
use Rattle.nom_repeat.specs.Bounds.{any_limits}
use Rattle.nom_repeat.specs.laws.ItemsLaws.{items_lawful, items_steady}
use Rattle.nom_language.specs.LeftFolds.{left_assoc_meaning}
use Rattle.nom_language.specs.Precedences.{lacking_if, lacking_meaning, terms_meaning, evaluated_meaning}

module _ {I A V W E : Type 0} {w : Model I A} {Lacks : V → Type 0} {part : Meaning I V E} {m : Meaning I W E} where
  lacking_frugal : IsLawful w m → (mode : Modes) (i : I) → w.IsKnown i → (lacking_meaning Lacks part m).IsFrugal mode →
      (lacking_meaning Lacks part m).may_run_out mode i → ⊥
  lacking_frugal l mode i k h (inl r) = l.frugal mode i k h.0 r
  lacking_frugal l mode i k h (inr r) = h.1 r.accepts.tree r.lacks

  pub lacking_lawful : IsLawful w m → IsLawful w (lacking_meaning Lacks part m)
  lacking_lawful l = record {
    within = l.within;
    one_outcome = l.one_outcome;
    consistent = l.consistent;
    frugal = lacking_frugal l;
    settles = l.settles;
    blames_consistent = l.blames_consistent;
    never_fails = l.never_fails;
  }

  pub lacking_steady : IsSteady w m → IsSteady w (lacking_meaning Lacks part m)
  lacking_steady l = record { stays = l.stays }

module _ {I A T C E : Type 0} {w : Model I A} (l : InputLaws w) (errs : Errors I E) {Waits : T → Type 0} {term : Meaning I T E}
    {binary : Meaning I C E} where
  pub terms_lawful : IsLawful w term → IsLawful w binary → IsLawful w (terms_meaning w errs Waits term binary)
  terms_lawful p q = lacking_lawful (sequence_lawful l (closed_lawful p) (items_lawful l errs (any_limits Kind.Precedence) (built_lawful (pair_lawful l q p))))

  pub terms_steady : IsSteady w term → IsSteady w binary → IsSteady w (terms_meaning w errs Waits term binary)
  terms_steady p q = lacking_steady (sequence_steady l (closed_steady p) (items_steady l errs (any_limits Kind.Precedence) (built_steady (pair_steady l q p))))

module _ {I A V O Y E : Type 0} {w : Model I A} (Evaluates : V → Result O Y → Type 0) (part : Meaning I V E) {m : Meaning I V E} where
  lacking_if_lawful : (no_memory : Option Y) → IsLawful w m → IsLawful w (lacking_if no_memory Evaluates part m)
  lacking_if_lawful None l = l
  lacking_if_lawful (Some e) l = lacking_lawful l

  lacking_if_steady : (no_memory : Option Y) → IsSteady w m → IsSteady w (lacking_if no_memory Evaluates part m)
  lacking_if_steady None l = l
  lacking_if_steady (Some e) l = lacking_steady l

module _ {I A T C O Y X E : Type 0} {w : Model I A} (l : InputLaws w) (errs : Errors I E) (externals : Externals I X E) {CanFold : Type 0}
    {Returns : Result O Y → Result O X → Type 0} (no_memory : Option Y) (Waits : T → Type 0) {Evaluates : T × List (C × T) → Result O Y → Type 0}
    {term : Meaning I T E} {binary : Meaning I C E} (j : IsJudge Evaluates Returns is_ok) where
  pub evaluated_lawful : IsLawful w term → IsLawful w binary →
      IsLawful w (evaluated_meaning w errs externals CanFold Returns no_memory Waits Evaluates term binary)
  evaluated_lawful p q = premised_lawful (lacking_if_lawful Evaluates (terms_meaning w errs Waits term binary) no_memory
      (judged_lawful {Takes = λ _. Unit {0}} j (terms_lawful l errs p q)))

  pub evaluated_steady : IsSteady w term → IsSteady w binary →
      IsSteady w (evaluated_meaning w errs externals CanFold Returns no_memory Waits Evaluates term binary)
  evaluated_steady p q = premised_steady (lacking_if_steady Evaluates (terms_meaning w errs Waits term binary) no_memory
      (judged_steady {Takes = λ _. Unit {0}} j (terms_steady l errs p q)))

module _ {I A T C E : Type 0} {w : Model I A} (l : InputLaws w) (errs : Errors I E) {CanBuild : Type 0} {child : Meaning I T E} {operator : Meaning I C E} where
  pub left_assoc_lawful : IsLawful w child → IsLawful w operator → IsLawful w (left_assoc_meaning w errs CanBuild child operator)
  left_assoc_lawful p q = premised_lawful (sequence_lawful l p (items_lawful l errs (any_limits Kind.SeparatedList) (built_lawful (pair_lawful l q p))))

  pub left_assoc_steady : IsSteady w child → IsSteady w operator → IsSteady w (left_assoc_meaning w errs CanBuild child operator)
  left_assoc_steady p q = premised_steady (sequence_steady l p (items_steady l errs (any_limits Kind.SeparatedList) (built_steady (pair_steady l q p))))

module _ {I A H T E : Type 0} {w : Model I A} (l : InputLaws w) (errs : Errors I E) {Runs IsSound : Type 0} {expression : Meaning I T E}
    {binary : Meaning I H E} where
  pub require_operands_lawful : IsLawful w expression → IsLawful w binary → IsLawful w (premised Runs IsSound
      (sequence_meaning w (λ e _. e) (λ o. o) (λ o. o) expression (not_meaning (λ i. errs.of_kind i Kind.Precedence) errs.grows binary)))
  require_operands_lawful p q = premised_lawful (sequence_lawful l {second_mode = λ o. o} p (not_lawful q))

  pub require_operands_steady : IsSteady w expression → IsSteady w binary → IsSteady w (premised Runs IsSound
      (sequence_meaning w (λ e _. e) (λ o. o) (λ o. o) expression (not_meaning (λ i. errs.of_kind i Kind.Precedence) errs.grows binary)))
  require_operands_steady p q = premised_steady (sequence_steady l {second_mode = λ o. o} p (not_steady q))
