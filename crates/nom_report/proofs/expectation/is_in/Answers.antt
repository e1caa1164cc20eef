use Rattle.std.proofs.Common.{below_more}
use Rattle.nom_report.specs.Wanted.{seen}
use Rattle.nom_report.proofs.Among.{not_at, not_so}
use Rattle.nom_report.proofs.expectation.is_in.Goals as goal

pub loop-item-preserved : goal.loop-item-preserved
loop-item-preserved c = below_more _ _ c.loop-item.invariant
    (not_at seen c.args.items.now c.loop-item.item-index _ (seen c.args.it.now) c.loop-item-test.true (not_so c.is_same.ensures.1 c.if-is_same.false))
