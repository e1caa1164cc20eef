use Rattle.nom_internal.specs.Prelude.{slice_pinned}
use Rattle.nom_calls.proofs.FuncSound.{answers_by}
use Rattle.nom_combinator.specs.laws.AllLaws.{rest_lawful}
use Rattle.nom_combinator.proofs.ends.rest.Goals as goal

pub returns : goal.returns
returns g c =
    answers_by (rest_lawful g.I.Items.model g.row.E.Denot) (slice_pinned g.met.I.Input.views)
    c.parse_complete.ensures.shown
