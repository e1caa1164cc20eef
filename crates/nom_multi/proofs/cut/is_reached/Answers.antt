use Rattle.std.proofs.Common.{arith}
use Rattle.nom_multi.proofs.Reached.{first_positive, reaching_goes_on, inside_first}
use Rattle.nom_multi.proofs.cut.is_reached.Goals as goal

pub returns-then-first-left : goal.returns-then-first-left
returns-then-first-left g c = inside_first g.met.I.Items.lawful c.loop-left.invariant c.in-Ok.first c.in-Ok.ensures c.loop-left-test.true c.if-first-left.true

pub loop-left-smaller : goal.loop-left-smaller
loop-left-smaller g c = omega (arith, first_positive g.met.I.Items.lawful c.in-Ok.ensures, c.loop-left-test.true)

pub loop-left-preserved : goal.loop-left-preserved
loop-left-preserved g c = reaching_goes_on g.met.I.Items.lawful c.loop-left.invariant c.in-Ok.first _ _ c.take_from-rest.ensures
    (omega (arith, c.if-first-left.false))
