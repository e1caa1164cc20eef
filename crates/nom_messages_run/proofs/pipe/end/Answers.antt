use Rattle.std.proofs.Common.{append-nil, refl}
use Rattle.nom_run.proofs.Built.{told, pending}
use Rattle.nom_run.proofs.Piecewise.{puts_both, puts_from, puts_whole}
use Rattle.nom_messages_run.proofs.pipe.end.Goals as goal

pub returns-in-Err-put_ending : goal.returns-in-Err-put_ending
returns-in-Err-put_ending g c = pending _ (refl, refl) (puts_whole (puts_from c.take_room.ensures.same c.in-Err-put_ending.ensures.puts))

pub returns-in-Ok-flush : goal.returns-in-Ok-flush
returns-in-Ok-flush g c = told _ (refl, c.status_of.ensures)
    (puts_whole (puts_both (append-nil _) (puts_from c.take_room.ensures.same c.in-Ok-put_ending.ensures.puts) c.in-Ok-flush.ensures.puts))

pub returns-in-Err-flush : goal.returns-in-Err-flush
returns-in-Err-flush g c = pending _ (refl, refl)
    (puts_whole (puts_both (append-nil _) (puts_from c.take_room.ensures.same c.in-Ok-put_ending.ensures.puts) c.in-Err-flush.ensures.puts))
