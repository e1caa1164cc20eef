use Rattle.nom_internal.proofs.Shown.{parsed}
use Rattle.nom_internal.specs.Prelude.{value_pinned}
use Rattle.nom_calls.proofs.FuncSound.{streams_by}
use Rattle.nom_bits.specs.laws.FieldLaws.{bool_lawful, bool_steady}
use Rattle.nom_bits.proofs.streaming.bool.Goals as goal

pub returns-clause-shown : goal.returns-clause-shown
returns-clause-shown g c =
    streams_by (bool_lawful g.I.Items.model g.E.ParseError.errors) (bool_steady g.I.Items.model g.E.ParseError.errors) tt value_pinned
    (parsed c.full.ensures c.process.ensures.shown)
