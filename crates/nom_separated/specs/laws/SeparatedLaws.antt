-- The laws of items with a separator between them.
use Rattle.std.specs.Prelude.{false, List, [], ◌∷◌}
use Rattle.nom_internal.specs.Prelude.{Errors, Modes, Model, InputLaws, Meaning, IsLawful, IsSteady, IsLawfulFamily, AnyKey, success_lawful, success_steady}
use Rattle.nom_internal.specs.Prelude.{Cause}
use Rattle.nom_internal.specs.laws.SequenceLaws.{then_lawful, then_steady, sequence_lawful, sequence_steady}
use Rattle.nom_repeat.specs.laws.ItemsLaws.{items_lawful, items_steady}
use Rattle.nom_sequence.specs.laws.SequenceLaws.{preceded_lawful, preceded_steady}
use Rattle.nom_separated.specs.Separated.{further_meaning, separated1_meaning, optional_limits, follows, following, separated0_meaning}
use Rattle.nom_repeat.specs.Bounds.{any_limits, one_limits}
use Rattle.nom_error.specs.declared.kind.ErrorKind.TheVariants as Kind
use Rattle.nom_repeat.specs.declared.items.TooFew.TheVariants.{Passed}

module _ {I A P V E : Type 0} {w : Model I A} (l : InputLaws w) (errs : Errors I E) {separator : Meaning I P E} {m : Meaning I V E} where
  pub further_lawful : IsLawful w separator → IsLawful w m → IsLawful w (further_meaning w errs separator m)
  further_lawful q p = items_lawful l errs (any_limits Kind.SeparatedList) (preceded_lawful l q p)

  pub further_steady : IsSteady w separator → IsSteady w m → IsSteady w (further_meaning w errs separator m)
  further_steady q p = items_steady l errs (any_limits Kind.SeparatedList) (preceded_steady l q p)

  pub separated1_lawful : IsLawful w separator → IsLawful w m → IsLawful w (separated1_meaning w errs separator m)
  separated1_lawful q p = sequence_lawful l (items_lawful l errs (one_limits Passed false) p) (further_lawful q p)

  pub separated1_steady : IsSteady w separator → IsSteady w m → IsSteady w (separated1_meaning w errs separator m)
  separated1_steady q p = sequence_steady l (items_steady l errs (one_limits Passed false) p) (further_steady q p)

  following_lawful : IsLawful w separator → IsLawful w m → IsLawfulFamily w AnyKey (following w errs separator m)
  following_lawful q p = record {
    lawful = λ vs _. lawful_at vs;
    frugal = λ mode h vs _. frugal_at mode h vs;
    settles = λ h vs _. settles_at h vs;
    never_fails = λ cause h vs _. never_at cause h vs;
  }
    where
      lawful_at : (vs : List V) → IsLawful w (follows w errs separator m vs)
      lawful_at [] = success_lawful
      lawful_at (v ∷ vs) = further_lawful q p

      frugal_at : (mode : Modes) → (further_meaning w errs separator m).IsFrugal mode → (vs : List V) → (follows w errs separator m vs).IsFrugal mode
      frugal_at mode h [] = λ _ n. n
      frugal_at mode h (v ∷ vs) = h

      settles_at : (further_meaning w errs separator m).Settles → (vs : List V) → (follows w errs separator m vs).Settles
      settles_at h [] = tt
      settles_at h (v ∷ vs) = h

      never_at : (cause : Cause) → (further_meaning w errs separator m).NeverFails cause → (vs : List V) → (follows w errs separator m vs).NeverFails cause
      never_at cause h [] = tt
      never_at cause h (v ∷ vs) = h

  pub separated0_lawful : IsLawful w separator → IsLawful w m → IsLawful w (separated0_meaning w errs separator m)
  separated0_lawful q p = then_lawful l (following w errs separator m) (items_lawful l errs optional_limits p) (following_lawful q p)

  pub separated0_steady : IsSteady w separator → IsSteady w m → IsSteady w (separated0_meaning w errs separator m)
  separated0_steady q p = then_steady l (following w errs separator m) (items_steady l errs optional_limits p) steady_at
    where
      steady_at : (vs : List V) → IsSteady w (follows w errs separator m vs)
      steady_at [] = success_steady
      steady_at (v ∷ vs) = further_steady q p
