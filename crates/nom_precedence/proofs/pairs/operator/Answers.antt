use Rattle.std.proofs.Common.{arith}
use Rattle.nom_precedence.proofs.OperatorShown.{own_ok, own_no_level, own_err}
use Rattle.nom_precedence.proofs.pairs.operator.Goals as goal

pub returns-in_err-rest-clause-shown : goal.returns-in_err-rest-clause-shown
returns-in_err-rest-clause-shown g c = own_err g.C.Error.ParseError.errors _ c.in_err-rest.ensures.shown c.from_residual.ensures

pub returns-then-own-levels-clause-shown : goal.returns-then-own-levels-clause-shown
returns-then-own-levels-clause-shown g c = own_ok g.C.Error.ParseError.errors _ c.emitted-own.ensures (omega arith) c.in_ok-rest.ensures.shown

pub returns-else-own-levels-clause-shown : goal.returns-else-own-levels-clause-shown
returns-else-own-levels-clause-shown g c =
    own_no_level g.C.Error.ParseError.errors _ c.emitted-own.ensures (omega arith) c.in_ok-rest.ensures.shown c.failure.ensures
