use Rattle.std.proofs.Common.{arith, ◌∙◌, ◌*◌, ◌+◌, take, subst, sym}
use Rattle.std.proofs.lemmas.Grind.{take-set_at}
use Rattle.std.proofs.lemmas.List.{length-set, length-take-le}
use Rattle.nom_write.proofs.Packed.{padded_more}
use Rattle.nom_write.specs.BitForms.{IsPadded}
use Rattle.nom_write.proofs.bits.add_group.Goals as goal

pub loop-count-preserved : goal.loop-count-preserved
loop-count-preserved g c =
    let i = c.loop-count.invariant in
    let k = c.loop-count.count in
    let b = c.padded_byte.result in
    record {
      all = length-set c.loop-count.bytes k b ∙ i.all;
      within = omega (arith, c.loop-count-test.true);
      so_far = subst (IsPadded (take (8 * (k + 1)) c.args.bits.now))
          (sym (take-set_at c.loop-count.bytes k (k + 1) b (omega arith) (omega (arith, i.all, c.loop-count-test.true))))
          (padded_more c.args.bits.now (take k c.loop-count.bytes) b k c.min-end.result
          (length-take-le k c.loop-count.bytes (omega (arith, i.all, c.loop-count-test.true)))
          c.loop-count-test.true c.min-end.ensures c.padded_byte.ensures i.so_far);
    }
