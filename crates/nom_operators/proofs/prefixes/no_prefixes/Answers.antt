use Rattle.std.proofs.Common.{sym, ◌∙◌}
use Rattle.nom_internal.proofs.Shown.{some_built}
use Rattle.nom_operators.proofs.prefixes.no_prefixes.Goals as goal

pub returns-then-BUILDS-clause-empty : goal.returns-then-BUILDS-clause-empty
returns-then-BUILDS-clause-empty g c = some_built _ _ _ (sym c.BUILDS.ensures ∙ c.if-BUILDS.true) c.new.ensures.items

pub returns-then-BUILDS-clause-ready : goal.returns-then-BUILDS-clause-ready
returns-then-BUILDS-clause-ready g c = some_built _ _ _ (sym c.BUILDS.ensures ∙ c.if-BUILDS.true) c.new.ensures.items
