use Rattle.std.proofs.Common.{inl}
use Rattle.nom_run.proofs.Piecewise.{puts_from}
use Rattle.nom_messages_run.proofs.pipe.list.Goals as goal

pub returns-clause-puts : goal.returns-clause-puts
returns-clause-puts g c = inl (puts_from c.take_room.ensures.same c.put_received.ensures.puts)
