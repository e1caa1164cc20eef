use Rattle.std.proofs.Common.{true}
use Rattle.nom_bytes.proofs.no_case.TagNoCaseParser.process.Goals as goal

pub returns-clause-shown : goal.returns-clause-shown
returns-clause-shown g c = c.answer.ensures true c.compare_no_case-compared.ensures
