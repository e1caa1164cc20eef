use Rattle.std.proofs.Common.{false}
use Rattle.nom_bytes.proofs.leaf.TagParser.process.Goals as goal

pub returns-clause-shown : goal.returns-clause-shown
returns-clause-shown g c = c.answer.ensures false c.compare-compared.ensures
