use Rattle.nom_internal.proofs.Shown.{err_from_residual}
use Rattle.nom_internal.proofs.Tuples.{member_err, member_some}
use Rattle.nom_internal.proofs.tuple.member.Goals as goal

pub returns-in_err-rest-clause-shown : goal.returns-in_err-rest-clause-shown
returns-in_err-rest-clause-shown g c = member_err (g.P.Parser.grammar _) _ c.in_err-rest.ensures.shown (err_from_residual c.from_residual.ensures)

pub returns-clause-shown : goal.returns-clause-shown
returns-clause-shown g c = member_some (g.P.Parser.grammar _) _ c.in_ok-rest.ensures.shown c.in-Some.is
