use Rattle.std.proofs.Common.{ap, sym}
use Rattle.nom_run.proofs.Piecewise.{puts_same}
use Rattle.nom_messages_run.specs.Pipe.{ending_text}
use Rattle.nom_messages_run.proofs.put.put_ending.Goals as goal

pub returns-in-Some-clause-puts : goal.returns-in-Some-clause-puts
returns-in-Some-clause-puts g c = puts_same (ap (λ z. ending_text z c.args.offset) (sym c.in-Some.is)) c.put_stop.ensures.puts
