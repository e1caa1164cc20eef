use Rattle.std.proofs.Common.{arith, ap, ◌≤◌, ◌<◌, ◌-◌, length}
use Rattle.std.proofs.lemmas.List.{places}
use Rattle.nom_io.proofs.Known.{take_on}
use Rattle.nom_io.proofs.Written.{wrote_then}
use Rattle.nom_run.proofs.run.write_all.Goals as goal

pub loop-at-preserved : goal.loop-at-preserved
loop-at-preserved g c =
    let low : c.loop-at.at ≤ length c.args.text.now = omega arith in
    let b = c.in-Ok.ensures.bound in
    let high : c.in-Ok.count ≤ length c.args.text.now - c.loop-at.at = grind (arith, places, b) in
    let some : 0 < c.in-Ok.count = omega (arith, c.if-count-eq0.false) in
    record {
      none = λ e. absurd (omega (arith, ap length e));
      within = omega arith;
      wrote = rw (take_on c.args.text.now c.loop-at.at c.in-Ok.count low high)
          (wrote_then c.loop-at.invariant.wrote (record { appends = c.in-Ok.ensures.bytes; none = (c.in-Ok.ensures.counts.1, c.in-Ok.ensures.stalls.0 some) }));
    }
