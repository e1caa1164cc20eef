use Rattle.std.proofs.Common.{sym, ◌∙◌}
use Rattle.nom_internal.proofs.Shown.{some_built}
use Rattle.nom_repeat.proofs.accumulator.with_room.Goals as goal

pub returns-in-Ok-clause-empty : goal.returns-in-Ok-clause-empty
returns-in-Ok-clause-empty g c = some_built _ _ _ (sym c.BUILDS.ensures ∙ c.if-BUILDS.true) c.in-Ok.ensures.items

pub returns-in-Ok-clause-ready : goal.returns-in-Ok-clause-ready
returns-in-Ok-clause-ready g c = some_built _ _ _ (sym c.BUILDS.ensures ∙ c.if-BUILDS.true) tt
