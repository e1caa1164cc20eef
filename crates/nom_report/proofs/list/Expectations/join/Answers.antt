use Rattle.nom_report.specs.Wanted.{seen}
use Rattle.nom_report.specs.Kept.{kept}
use Rattle.nom_report.proofs.Adding.{adds_step}
use Rattle.nom_report.proofs.list.Expectations.join.Goals as goal

pub loop-it-preserved : goal.loop-it-preserved
loop-it-preserved c =
    adds_step seen c.as_slice-it-items.result.now c.loop-it.it-index _ (kept c.args.self.now) (kept c.loop-it.self) (kept c.add.new.self) c.loop-it-test.true
    c.loop-it.invariant c.add.ensures
