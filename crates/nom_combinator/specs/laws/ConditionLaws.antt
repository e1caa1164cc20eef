-- The laws of a part that runs on a condition.
use Rattle.std.specs.Prelude.{◌≡◌, Bool, true, false}
use Rattle.std.proofs.Common.{refl, sym, ◌∙◌, ap}
use Rattle.nom_internal.specs.Prelude.{Model, View, option_view, Meaning, IsLawful, IsSteady, success_lawful, success_steady, IsPinned}
use Rattle.nom_internal.specs.Prelude.{premised_lawful, premised_steady}
use Rattle.nom_internal.specs.laws.CaseLaws.{labelled_lawful, labelled_steady}
use Rattle.nom_combinator.specs.Conditions.{on_condition, cond_meaning, CondOutput}
use Rattle.nom_combinator.specs.laws.VerdictLaws.{opt_pinned}

module _ {I A P E : Type 0} {w : Model I A} {m : Meaning I P E} where
  on_condition_lawful : (b : Bool) → (b ≡ true → IsLawful w m) → IsLawful w (on_condition b m)
  on_condition_lawful true l = labelled_lawful (l refl)
  on_condition_lawful false l = success_lawful

  pub cond_lawful : (b : Bool) → (b ≡ true → IsLawful w m) → IsLawful w (cond_meaning b m)
  cond_lawful b l = premised_lawful (on_condition_lawful b l)

  on_condition_steady : (b : Bool) → (b ≡ true → IsSteady w m) → IsSteady w (on_condition b m)
  on_condition_steady true l = labelled_steady (l refl)
  on_condition_steady false l = success_steady

  pub cond_steady : (b : Bool) → (b ≡ true → IsSteady w m) → IsSteady w (cond_meaning b m)
  cond_steady b l = premised_steady (on_condition_steady b l)

module _ {P O : Type 0} {view : View O} {IsOutput : P → O → Type 0} where
  pub cond_pinned : (b : Bool) → (b ≡ true → IsPinned view IsOutput) → IsPinned (option_view view) (CondOutput b IsOutput)
  cond_pinned true f = opt_pinned (f refl)
  cond_pinned false f = record { one_view = λ t a b x y. ap (option_view view).value (x ∙ sym y) }
