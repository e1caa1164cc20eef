-- The laws of choices among several parsers.
use Rattle.nom_internal.specs.Prelude.{Errors, Model, Meaning, IsLawful, IsSteady}
use Rattle.nom_internal.specs.laws.CaseLaws.{closed_lawful, closed_steady}
use Rattle.nom_internal.specs.laws.ChoiceLaws.{either_lawful, either_steady}
use Rattle.nom_branch.specs.Alternatives.{next_meaning, choice_meaning}

module _ {I A P Q E : Type 0} {w : Model I A} (e : Errors I E) {a : Meaning I P E} {b : Meaning I Q E} where
  pub next_lawful : IsLawful w a → IsLawful w b → IsLawful w (next_meaning e a b)
  next_lawful p q = either_lawful p q

  pub next_steady : IsSteady w a → IsSteady w b → IsSteady w (next_meaning e a b)
  next_steady p q = either_steady p q

module _ {I A V E : Type 0} {w : Model I A} (e : Errors I E) {m : Meaning I V E} where
  pub choice_lawful : IsLawful w m → IsLawful w (choice_meaning e m)
  choice_lawful p = closed_lawful p

  pub choice_steady : IsSteady w m → IsSteady w (choice_meaning e m)
  choice_steady p = closed_steady p
