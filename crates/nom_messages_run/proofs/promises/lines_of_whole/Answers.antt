use Rattle.nom_messages_run.proofs.Whole.{lines_whole}
use Rattle.nom_messages_run.proofs.promises.lines_of_whole.Goals as goal

pub returns : goal.returns
returns g c = lines_whole _ _ c.requires c.answers_of_whole.ensures c.items_of_whole.ensures c.bytes_of_whole.ensures
