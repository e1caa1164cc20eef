use Rattle.std.proofs.Common.{sym, ◌∙◌}
use Rattle.nom_internal.specs.Prelude.{front_seen}
use Rattle.nom_internal.proofs.Shown.{some_built}
use Rattle.nom_internal.proofs.slices.front.Goals as goal

pub returns-then-BUILDS : goal.returns-then-BUILDS
returns-then-BUILDS g c = λ t p. some_built _ _ _ (sym c.BUILDS.ensures ∙ c.if-BUILDS.true) (front_seen _ g.met.I.Items.lawful _ _ _ t c.take.ensures p)
