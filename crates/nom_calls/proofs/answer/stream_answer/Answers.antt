use Rattle.nom_calls.proofs.FuncSound.{streams_by}
use Rattle.nom_calls.proofs.answer.stream_answer.Goals as goal

pub returns-clause-answer : goal.returns-clause-answer
returns-clause-answer g c =
    streams_by (g.met.P.Parser.lawful _ c.requires.sound) (g.met.P.StreamParser.steady _ c.requires.sound) c.requires.never_too_large
    (g.met.P.StreamParser.pinned _ c.requires.sound c.requires.pins) c.parse.ensures.shown
