use Rattle.std.proofs.Common.{refl}
use Rattle.nom_messages_run.proofs.program.perform.Goals as goal

pub returns-in-Report : goal.returns-in-Report
returns-in-Report g c = rw c.in-Report.is (refl, refl, c.status_for.ensures)
