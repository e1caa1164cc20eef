-- A meaning whose closures are called beside its part, and its laws.
use Rattle.nom_internal.specs.Prelude.{Model, Meaning, IsLawful, IsSteady, premised, premised_lawful, premised_steady}

-- what the part means, where it runs and the premise holds
abbrev pub under : {I V E : Type 0} → Type 0 → Meaning I V E → Meaning I V E
under Premise m = premised (m.Runs × Premise) m.IsSound m

module _ {I A V E : Type 0} {w : Model I A} {Premise : Type 0} {m : Meaning I V E} where
  pub under_lawful : IsLawful w m → IsLawful w (under Premise m)
  under_lawful p = premised_lawful p

  pub under_steady : IsSteady w m → IsSteady w (under Premise m)
  under_steady p = premised_steady p
