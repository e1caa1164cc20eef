use Rattle.nom_calls.proofs.Stepping.{stepped}
use Rattle.nom_calls.proofs.items.ParserIteratorIterator.next.Goals as goal

pub returns-clause-steps : goal.returns-clause-steps
returns-clause-steps g c = stepped c.parse-answer.result c.parse-answer.ensures.kept c.in-Running.is c.parse-answer.ensures.shown c.moved-output.ensures
