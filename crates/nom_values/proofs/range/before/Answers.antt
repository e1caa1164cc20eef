use Rattle.nom_values.proofs.range.before.Goals as goal

pub returns : goal.returns
returns c = rw c.saturating_sub.ensures at c.up_to.ensures
