use Rattle.nom_stream.proofs.Lent.{bytes_whole}
use Rattle.nom_stream.proofs.promises.bytes_of_whole.Goals as goal

pub returns : goal.returns
returns g c = bytes_whole _ _
