use Rattle.std.proofs.Common.{arith, sym, ◌∙◌, ap, ◌-◌, ◌+◌, ◌++◌, append_assoc, take, ◌∷◌, []}
use Rattle.std.proofs.lemmas.Grind.{take-set_at}
use Rattle.std.proofs.lemmas.List.{length-set}
use Rattle.nom_traits.specs.Bits.{low_bits, is_bit}
use Rattle.nom_write.proofs.Packed.{next_bit}
use Rattle.nom_write.proofs.bits.number_bits.Goals as goal

pub loop-done-preserved : goal.loop-done-preserved
loop-done-preserved c =
    let i = c.loop-done.invariant in
    let k = c.loop-done.done in
    let n = c.args.number in
    let b = is_bit n (c.args.count - 1 - k) in
    record {
      within = omega arith;
      all = length-set c.loop-done.bits k b ∙ i.all;
      so_far = ap (λ bs. bs ++ low_bits (c.args.count - (k + 1)) n) (take-set_at c.loop-done.bits k (k + 1) b (omega arith) (omega (arith, i.all)))
          ∙ append_assoc (take k c.loop-done.bits) (b ∷ []) (low_bits (c.args.count - (k + 1)) n)
          ∙ ap (λ bs. take k c.loop-done.bits ++ bs) (sym (next_bit c.args.count k n c.loop-done-test.true))
          ∙ i.so_far;
    }
