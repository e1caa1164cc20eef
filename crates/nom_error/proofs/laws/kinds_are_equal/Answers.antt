use Rattle.std.proofs.Common.{sym, ◌∙◌}
use denote.Enum.Bare.{same_true, true_same}
use Rattle.nom_error.specs.contracts.kind.ErrorKind.{the_type}
use Rattle.nom_error.proofs.laws.kinds_are_equal.Goals as goal

pub returns : goal.returns
returns c = (λ t. same_true the_type tt _ _ (sym c.eq.ensures ∙ t), λ e. c.eq.ensures ∙ true_same the_type _ _ e)
