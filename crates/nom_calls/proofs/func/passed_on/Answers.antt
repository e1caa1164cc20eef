use Rattle.nom_calls.proofs.FuncShown.{passes_accepted}
use Rattle.nom_calls.proofs.func.passed_on.Goals as goal

pub returns-in-Ok : goal.returns-in-Ok
returns-in-Ok g c = passes_accepted _ _ (cc (c.in-Ok.is)) c.accepted.ensures
