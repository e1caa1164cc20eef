use Rattle.std.proofs.Common.{arith}
use Rattle.nom_traits.specs.Classes.{in_set}
use Rattle.nom_traits.proofs.ByteLanes.{block_passes, block_stops}
use Rattle.nom_traits.proofs.lanes.run_in_first.Goals as goal

pub returns-then-marks-eq0 : goal.returns-then-marks-eq0
returns-then-marks-eq0 c = block_passes (in_set c.args.set) c.args.bytes.now 0 16 c.requires c.outside_first-marks.result
    c.outside_first-marks.ensures (let h = c.if-marks-eq0.true in omega arith)

pub returns-else-marks-eq0 : goal.returns-else-marks-eq0
returns-else-marks-eq0 c = block_stops (in_set c.args.set) c.args.bytes.now 0 16 c.requires c.outside_first-marks.result (omega arith)
    c.outside_first-marks.ensures (let h = c.if-marks-eq0.false in omega arith)
