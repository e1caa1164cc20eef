use Rattle.nom_internal.specs.Prelude.{value_pinned}
use Rattle.nom_calls.proofs.FuncSound.{answers_by}
use Rattle.nom_combinator.specs.laws.AllLaws.{rest_len_lawful}
use Rattle.nom_combinator.proofs.ends.rest_len.Goals as goal

pub returns : goal.returns
returns g c = answers_by (rest_len_lawful g.I.Items.model g.row.E.Denot) value_pinned c.parse_complete.ensures.shown
