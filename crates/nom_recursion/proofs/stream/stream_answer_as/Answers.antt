use Rattle.nom_recursion.proofs.StreamBelow.{streams_as}
use Rattle.nom_recursion.proofs.stream.stream_answer_as.Goals as goal

pub returns : goal.returns
returns g c = streams_as _ _ (g.P.Parser.worded _) c.stream_answer.ensures.answer
