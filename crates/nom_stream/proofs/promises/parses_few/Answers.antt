use Rattle.nom_stream.proofs.Repeats.{parses_few}
use Rattle.nom_stream.proofs.promises.parses_few.Goals as goal

pub returns : goal.returns
returns g c = parses_few _ _
