use Rattle.std.proofs.Common.{◌<◌, ◌^◌, arith, inl, sym, subst}
use Rattle.std.proofs.Math.Pow.{pow_mono}
use Rattle.nom_sink.specs.Written.{LacksRoom}
use Rattle.nom_sink.proofs.Adding.{written_as}
use Rattle.nom_write.specs.BitForms.{AreBitsOf, FieldFails}
use Rattle.nom_write.specs.laws.BitReads.{bits_of_number}
use Rattle.nom_write.proofs.Packed.{fits_below}
use Rattle.nom_write.proofs.bits.add_field.Goals as goal
use Rattle.nom_write.proofs.bits.add_field.Goals.{else-count-lt128-via-then-count-lt128+else-number-count-gt0, else-count-lt128-via-else-count-lt128}

pub returns-clause-written : goal.returns-clause-written
returns-clause-written g c =
    let n = c.args.number in
    let k = c.args.count in
    let fits : n < 2 ^ k = elim c.else-count-lt128.branch [
      | else-count-lt128-via-then-count-lt128+else-number-count-gt0 w ↦ fits_below n k w.if-number-count-gt0.false
      | else-count-lt128-via-else-count-lt128 w ↦ omega (arith, pow_mono {i = 128} {j = k} w.if-count-lt128.false)
    ] in
    let are = subst (AreBitsOf k n) (sym c.number_bits.ensures) (bits_of_number k n fits) in
    written_as {FailsAs = FieldFails c.args.width k n} g.S.Sink.model c.args.out.now c.add.new.self c.add.result
    (λ xs e. subst (AreBitsOf k n) (sym e) are) (λ s e h. inl (subst (λ m. LacksRoom m s e) are.0 h)) c.add.ensures.written
