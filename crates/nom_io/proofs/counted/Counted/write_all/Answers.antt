use Rattle.std.proofs.Common.{arith, ◌≤◌, ◌-◌, ◌∙◌, length}
use Rattle.std.proofs.lemmas.List.{places}
use Rattle.nom_io.proofs.SeveralCalls.{none_then}
use Rattle.nom_io.proofs.Known.{appends_more, take_on}
use Rattle.nom_io.proofs.counted.Counted.write_all.Goals as goal

pub loop-at-preserved : goal.loop-at-preserved
loop-at-preserved g c =
    let low : c.loop-at.at ≤ length c.args.bytes.now = omega arith in
    let b = c.in-Ok.ensures.bound in
    let high : c.in-Ok.count ≤ length c.args.bytes.now - c.loop-at.at = grind (arith, places, b) in
    record {
      within = omega (arith, low, high);
      wrote = rw (take_on c.args.bytes.now c.loop-at.at c.in-Ok.count low high)
          (appends_more (g.W.Write.contents c.args.self.now.inner) (g.W.Write.contents c.loop-at.self.inner)
          (g.W.Write.contents c.write_retried.new.self.inner) _ _ c.loop-at.invariant.wrote c.in-Ok.ensures.bytes);
      none = none_then c.args.self.now.faults c.loop-at.self.faults c.write_retried.new.self.faults c.loop-at.invariant.none c.in-Ok.ensures.counts;
      flushes = c.in-Ok.ensures.flushes ∙ c.loop-at.invariant.flushes;
    }
