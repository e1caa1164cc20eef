use Rattle.nom_repeat.proofs.CertainShown.{certain_row}
use Rattle.nom_repeat.proofs.ahead.certain_count.Goals as goal

pub returns-clause-certain : goal.returns-clause-certain
returns-clause-certain g c =
    certain_row g.met.I.Items.lawful c.width-width.ensures _ _ c.known.ensures c.group_count.ensures.none_empty c.group_count.ensures.fit
