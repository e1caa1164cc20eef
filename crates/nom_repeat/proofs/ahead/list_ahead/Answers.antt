use Rattle.nom_repeat.proofs.CertainShown.{certain_first}
use Rattle.nom_repeat.proofs.ahead.list_ahead.Goals as goal

pub accept_first-requires-clause-certain : goal.accept_first-requires-clause-certain
accept_first-requires-clause-certain g c = certain_first c.in-Err.ensures.lacks.1 c.certain_count-certain.ensures.certain
