use Rattle.nom_search.proofs.BytePlaces.{nowhere}
use Rattle.nom_search.proofs.substring.find_bytes.Goals as goal

pub returns-in-None : goal.returns-in-None
returns-in-None c = nowhere c.args.bytes.now c.args.needle.now c.in-None.ensures
