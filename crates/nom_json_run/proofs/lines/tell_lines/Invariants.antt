use Rattle.nom_json_run.specs.JsonLines.{Going}
use Rattle.nom_json_run.proofs.lines.tell_lines.Given as goal

abbrev pub invariant-loop-turn : goal.invariant-loop-turn
invariant-loop-turn g l = Going g.R.Read.remaining l.fn.stream l.stream (g.W.ByteWriter.account l.fn.sink) (g.W.ByteWriter.account l.sink) l.turn l.wrong
