use Rattle.nom_stream.proofs.Wholes.{answers_whole}
use Rattle.nom_stream.proofs.promises.answers_of_whole.Goals as goal

pub returns : goal.returns
returns g c = answers_whole _ _ c.requires
