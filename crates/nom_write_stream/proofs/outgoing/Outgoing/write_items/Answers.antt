use Rattle.std.proofs.Common.{◌∙◌}
use Rattle.nom_write_stream.proofs.Several.{one_added, one_halts}
use Rattle.nom_write_stream.proofs.outgoing.Outgoing.write_items.Goals as goal

pub returns-in-Err-clause-adds : goal.returns-in-Err-clause-adds
returns-in-Err-clause-adds g c =
    let i = c.loop-count.invariant in
    one_halts g.W.Write.contents (g.P.Writer.Form c.args.writer.now) (g.P.Writer.Fails c.args.writer.now) c.args.values.now c.loop-count.count
    c.args.self.now c.loop-count.self c.write_item.new.self i.added i.most c.index-values-count.result c.loop-count-test.true c.index-values-count.is
    c.in-Err.why c.in-Err.ensures.adds

pub loop-count-preserved : goal.loop-count-preserved
loop-count-preserved g c =
    let i = c.loop-count.invariant in
    record {
      added = one_added g.W.Write.contents (g.P.Writer.Form c.args.writer.now) (g.P.Writer.Fails c.args.writer.now) c.args.values.now c.loop-count.count
          c.args.self.now c.loop-count.self c.write_item.new.self i.added i.most c.index-values-count.result c.loop-count-test.true
          c.index-values-count.is c.in-Ok.field-0 c.in-Ok.ensures.adds;
      flushes = c.in-Ok.ensures.flushes ∙ i.flushes;
      most = c.in-Ok.ensures.most ∙ i.most;
    }
