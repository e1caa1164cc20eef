use Rattle.nom_values.proofs.Counting.{endless_counts}
use Rattle.nom_values.proofs.range.endless.Goals as goal

pub returns : goal.returns
returns c = endless_counts
