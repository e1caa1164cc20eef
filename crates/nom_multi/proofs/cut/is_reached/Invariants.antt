use Rattle.nom_multi.proofs.Reached.{IsReaching}
use Rattle.nom_multi.proofs.cut.is_reached.Given as goal

abbrev pub invariant-loop-left : goal.invariant-loop-left
invariant-loop-left g l = IsReaching g.I.Items.model l.fn.input l.fn.length l.rest l.left

abbrev pub decreases-loop-left : goal.decreases-loop-left
decreases-loop-left g l = l.left
