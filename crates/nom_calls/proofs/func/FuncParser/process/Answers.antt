use Rattle.nom_calls.proofs.FuncShown.{func_shown}
use Rattle.nom_calls.proofs.func.FuncParser.process.Goals as goal

pub returns-clause-shown : goal.returns-clause-shown
returns-clause-shown g c = func_shown _ c.known.ensures c.f-answer.ensures c.passed_on.ensures
