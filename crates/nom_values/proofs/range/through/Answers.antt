use Rattle.nom_values.proofs.range.through.Goals as goal

pub returns : goal.returns
returns c = rw c.end.ensures at c.up_to.ensures
