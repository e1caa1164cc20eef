use Rattle.std.proofs.Common.{[], refl}
use Rattle.nom_operators.proofs.PendingShown.{if_some}
use Rattle.nom_operators.proofs.pending.begin.Goals as goal

pub returns-clause-read : goal.returns-clause-read
returns-clause-read g c = if_some _ _ c.read_term.result (λ r f. f [] (rw c.requires.empty refl)) c.read_term.ensures.read
