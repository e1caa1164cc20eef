use Rattle.nom_values.proofs.Counting.{range_counts}
use Rattle.nom_values.proofs.range.up_to.Goals as goal

pub returns : goal.returns
returns c = range_counts c.args.most
