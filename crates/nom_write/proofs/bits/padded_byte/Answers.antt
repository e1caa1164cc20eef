use Rattle.std.proofs.Common.{arith, ◌∙◌, ap, ◌*◌, ◌-◌, ◌^◌, length}
use Rattle.std.proofs.Math.Nat.{mod-eq_of_lt}
use Rattle.nom_traits.specs.Bits.{byte_bits}
use Rattle.nom_write.proofs.Packed.{all_read, byte_of_bits, read_bit}
use Rattle.nom_write.proofs.bits.padded_byte.Goals as goal

pub overflow_mul-value : goal.overflow_mul-value
overflow_mul-value c = omega (arith, (read_bit c.loop-bit.value _ _ c.requires.count c.loop-bit-test.true c.loop-bit.invariant).0)

pub overflow_add-value : goal.overflow_add-value
overflow_add-value c = omega (arith, (read_bit c.loop-bit.value _ _ c.requires.count c.loop-bit-test.true c.loop-bit.invariant).0)

pub loop-bit-preserved : goal.loop-bit-preserved
loop-bit-preserved c = (read_bit _ _ _ c.requires.count c.loop-bit-test.true c.loop-bit.invariant).1

pub returns : goal.returns
returns c =
    let v = c.loop-bit.value in
    let r = byte_of_bits c.args.bits.now v c.requires.count
    (all_read v c.loop-bit.bit-index c.args.bits.now c.loop-bit-test.false c.loop-bit.auto.bit-index-end c.loop-bit.invariant) in
    ap byte_bits (mod-eq_of_lt {n = v * 2 ^ (8 - length c.args.bits.now)} {m = 256} r.0) ∙ r.1
