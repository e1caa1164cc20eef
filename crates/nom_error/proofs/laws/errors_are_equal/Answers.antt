use Rattle.std.proofs.Common.{sym, ◌∙◌}
use Rattle.std.proofs.lemmas.Bool.{and_parts, and_from}
use denote.Enum.Bare.{same_true, true_same}
use Rattle.nom_error.specs.contracts.kind.ErrorKind.{the_type}
use Rattle.nom_error.proofs.laws.errors_are_equal.Goals as goal

pub returns : goal.returns
returns g c = (
  λ t. let both = and_parts _ _ (sym c.eq.ensures ∙ t) in (same_true the_type tt _ _ both.1, both.0),
  λ h. c.eq.ensures ∙ and_from _ _ h.1 (true_same the_type _ _ h.0),
)
