use Rattle.std.proofs.Common.{refl, sym, ◌∙◌}
use Rattle.nom_internal.proofs.Shown.{some_built}
use Rattle.nom_multi_fold.proofs.folded.start.Goals as goal

pub returns-then-BUILDS-clause-starts : goal.returns-then-BUILDS-clause-starts
returns-then-BUILDS-clause-starts g c =
    some_built _ _ _ (sym c.BUILDS.ensures ∙ c.if-BUILDS.true) (record { first = c.init.result; is_first = c.init.ensures; carries = refl; fold_is = refl })

pub returns-then-BUILDS-clause-ready : goal.returns-then-BUILDS-clause-ready
returns-then-BUILDS-clause-ready g c =
    some_built _ _ _ (sym c.BUILDS.ensures ∙ c.if-BUILDS.true) (record { carried = c.init.result; is_carried = refl; takes = c.requires.takes })
