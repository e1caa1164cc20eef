use Rattle.std.proofs.Common.{sym}
use Rattle.nom_run.proofs.program.status_by.Goals as goal

pub returns-in-Ok : goal.returns-in-Ok
returns-in-Ok g c = rw c.in-Ok.is (rw (sym c.deref.ensures.value) c.status_for.ensures)
