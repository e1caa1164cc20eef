use Rattle.std.proofs.Common.{rules}
use Rattle.nom_internal.proofs.Choices.{on_error}
use Rattle.nom_internal.proofs.choice.next_branch.Goals as goal

pub returns-in-Err-Error-clause-shown : goal.returns-in-Err-Error-clause-shown
returns-in-Err-Error-clause-shown g c = on_error _ c.args.before _ _ (search rules) c.after_refusal.ensures.shown

pub returns-in-Err-Error-clause-side_condition : goal.returns-in-Err-Error-clause-side_condition
returns-in-Err-Error-clause-side_condition g c = rw c.in-Err-Error.is (rw c.in-Err-Error.field-0-is c.after_refusal.ensures.side_condition)
