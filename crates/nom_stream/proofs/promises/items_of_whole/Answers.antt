use Rattle.nom_stream.proofs.Calls.{items_whole}
use Rattle.nom_stream.proofs.promises.items_of_whole.Goals as goal

pub returns : goal.returns
returns g c = items_whole _ _ c.requires
