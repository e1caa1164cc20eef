use Rattle.nom_internal.specs.Prelude.{slice_pinned}
use Rattle.nom_calls.proofs.FuncSound.{answers_by}
use Rattle.nom_combinator.specs.laws.AllLaws.{eof_lawful}
use Rattle.nom_combinator.proofs.ends.eof.Goals as goal

pub returns : goal.returns
returns g c =
    answers_by (eof_lawful g.I.Items.model g.E.ParseError.errors) (slice_pinned g.met.I.Input.views)
    c.parse_complete.ensures.shown
