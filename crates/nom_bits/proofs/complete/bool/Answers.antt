use Rattle.nom_internal.proofs.Shown.{parsed}
use Rattle.nom_internal.specs.Prelude.{value_pinned}
use Rattle.nom_calls.proofs.FuncSound.{answers_by}
use Rattle.nom_bits.specs.laws.FieldLaws.{bool_lawful}
use Rattle.nom_bits.proofs.complete.bool.Goals as goal

pub returns-clause-shown : goal.returns-clause-shown
returns-clause-shown g c =
    answers_by (bool_lawful g.I.Items.model g.E.ParseError.errors) value_pinned (parsed c.full.ensures c.process.ensures.shown)
