use Rattle.std.proofs.Common.{inr}
use Rattle.nom_write.proofs.runs.is_run.Goals as goal

pub returns-in-Some-end : goal.returns-in-Some-end
returns-in-Some-end g c = inr (inr (c.in-Some-end.field-0, c.in-Some-end.ensures))
