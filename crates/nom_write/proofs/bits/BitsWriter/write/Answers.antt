use Rattle.std.proofs.Common.{◌≡◌, ◌++◌, arith, inl, inr, length, refl, sym, ◌∙◌, ap, subst}
use Rattle.nom_sink.proofs.Adding.{written_as}
use Rattle.nom_sink.specs.Written.Lack.{OfSpace}
use Rattle.nom_write.specs.BitForms.{InWholeBytesFails, of_group}
use Rattle.nom_write.proofs.bits.BitsWriter.write.Goals as goal

pub returns-in-Ok-clause-written : goal.returns-in-Ok-clause-written
returns-in-Ok-clause-written g c =
    let w = c.in-Ok.ensures.written in
    let Form = g.P.Writer.Form c.args.self.now.parser c.args.value.now in
    let all : c.written.result.now ≡ w.0 = c.written.ensures ∙ (w.1 ∙ ap (λ ys. ys ++ w.0) c.slice_sink-bits.ensures.held) in
    let form = subst Form (sym all) w.2 in
    written_as {FailsAs = InWholeBytesFails Form (g.P.Writer.Fails c.args.self.now.parser c.args.value.now)} g.S.Sink.model c.args.out.now
    c.add_group.new.out c.add_group.result (λ xs p. record { bits = c.written.result.now; form = form; padded = p })
    (λ s e h. inr (c.written.result.now, form, h)) c.add_group.ensures.written

pub returns-in-Err-clause-written : goal.returns-in-Err-clause-written
returns-in-Err-clause-written g c =
    let w = c.in-Err.ensures.written in
    let e = c.in-Err.error in
    let fails = subst (λ n. g.P.Writer.Fails c.args.self.now.parser c.args.value.now (record { lack = OfSpace; room = w.1.0; start = n }) e)
    (ap length c.slice_sink-bits.ensures.held) w.1.2 in (
      refl,
      (
        g.S.Sink.model.room c.args.out.now,
        omega arith,
        inl (
          w.1.0,
          e,
          omega (arith, w.1.1, c.slice_sink-bits.ensures.room),
          fails,
          subst (λ n. c.of_group.result ≡ of_group n e) c.len.ensures c.of_group.ensures,
        ),
      ),
    )
