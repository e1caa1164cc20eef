use Rattle.nom_precedence.proofs.OperatorShown.{freed_ok, freed_stuck, freed_err}
use Rattle.nom_precedence.proofs.ReadShown.{told_ok}
use Rattle.nom_precedence.proofs.expression.PrecedenceParser.process.Goals as goal

pub returns-in_err-end-clause-shown : goal.returns-in_err-end-clause-shown
returns-in_err-end-clause-shown g c = freed_err g.F.Error.ParseError.errors c.in_err-end.ensures.shown c.from_residual.ensures

pub returns-in-Whole-clause-shown : goal.returns-in-Whole-clause-shown
returns-in-Whole-clause-shown g c = freed_ok g.F.Error.ParseError.errors (told_ok c.emitted.ensures c.in-Whole.is c.in_ok-end.ensures.shown)

pub returns-in-Stuck-clause-shown : goal.returns-in-Stuck-clause-shown
returns-in-Stuck-clause-shown g c =
    freed_stuck g.F.Error.ParseError.errors (told_ok c.emitted.ensures c.in-Stuck.is c.in_ok-end.ensures.shown) c.refusal.ensures
