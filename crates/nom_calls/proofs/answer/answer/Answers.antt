use Rattle.nom_calls.proofs.FuncSound.{answers_by}
use Rattle.nom_calls.proofs.answer.answer.Goals as goal

pub returns-clause-answer : goal.returns-clause-answer
returns-clause-answer g c =
    answers_by (g.met.P.Parser.lawful _ c.requires.sound) (g.met.P.StreamParser.pinned _ c.requires.sound c.requires.pins) c.parse_complete.ensures.shown
