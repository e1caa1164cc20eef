use Rattle.std.proofs.Common.{refl}
use Rattle.nom_json_run.proofs.program.perform.Goals as goal

pub returns-in-Text : goal.returns-in-Text
returns-in-Text g c = rw c.in-Text.is (refl, c.status_for.ensures)
