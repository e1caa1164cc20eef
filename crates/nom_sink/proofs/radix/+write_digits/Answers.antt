use Rattle.std.proofs.Common.{arith, [], ◌∷◌, ◌++◌, length, length-append, append_assoc, sym, ◌∙◌, ap, subst}
use Rattle.nom_sink.specs.Numerals.{AreDigitsOf, LacksDigits}
use Rattle.nom_sink.proofs.Adding.{written_as}
use Rattle.nom_sink.proofs.InRadix.{one_digit, with_last}
use Rattle.nom_sink.proofs.Lists.{undone}
use Rattle.nom_sink.proofs.radix.+write_digits.Goals as goal

pub returns-then-number-RADIX-clause-written : goal.returns-then-number-RADIX-clause-written
returns-then-number-RADIX-clause-written g t c =
    let of = g.T.OfCode.of_code in
    let b = g.R.Radix.RADIX in
    let n = c.args.number in
    let one : AreDigitsOf of b n (of c.last_digit-last.result ∷ []) = subst (λ d. AreDigitsOf of b n (of d ∷ [])) (sym c.last_digit-last.ensures)
    (one_digit of b n (omega arith)) in
    written_as {FailsAs = LacksDigits of b n} g.S.Sink.model c.args.out.now c.put_code.new.out c.put_code.result
    (λ xs e. subst (AreDigitsOf of b n) (sym e) one) (λ s e h. (of c.last_digit-last.result ∷ [], one, h)) c.put_code.ensures.written

pub returns-in-Ok-put_code-clause-written : goal.returns-in-Ok-put_code-clause-written
returns-in-Ok-put_code-clause-written g t c =
    let of = g.T.OfCode.of_code in
    let b = g.R.Radix.RADIX in
    let n = c.args.number in
    let f = c.in-Ok.ensures.written in
    let z = c.in-Ok-put_code.ensures.written in
    let all = with_last of b n c.RADIX-2.result (of c.last_digit-last.result) f.0 c.RADIX-2.ensures (ap of c.last_digit-last.ensures)
    g.R.Radix.some (omega arith)
    f.2 in (
      f.0 ++ z.0,
      z.1 ∙ (ap (λ ys. ys ++ z.0) f.1 ∙ append_assoc (g.S.Sink.model.items c.args.out.now) f.0 z.0),
      subst (λ ys. AreDigitsOf of b n (f.0 ++ ys)) (sym z.2) all,
    )

pub returns-in-Err-put_code-clause-written : goal.returns-in-Err-put_code-clause-written
returns-in-Err-put_code-clause-written g t c =
    let of = g.T.OfCode.of_code in
    let b = g.R.Radix.RADIX in
    let n = c.args.number in
    let last = of c.last_digit-last.result ∷ [] in
    let old = g.S.Sink.model.items c.args.out.now in
    let f = c.in-Ok.ensures.written in
    let w = c.in-Err-put_code.ensures.written in (
      undone _ old f.0 _ _ _ c.len-start.ensures f.1 w.0 c.truncate.ensures.items,
      (
        w.1.0,
        omega (arith, c.in-Ok.ensures.room, w.1.1),
        (
          f.0 ++ last,
          with_last of b n c.RADIX-2.result (of c.last_digit-last.result) f.0 c.RADIX-2.ensures (ap of c.last_digit-last.ensures)
              g.R.Radix.some (omega arith) f.2,
          (w.1.2.0, omega (arith, w.1.2.1, ap length f.1, length-append old f.0, length-append f.0 last)),
        ),
      ),
    )

pub returns-in-Err-clause-written : goal.returns-in-Err-clause-written
returns-in-Err-clause-written g t c =
    let of = g.T.OfCode.of_code in
    let b = g.R.Radix.RADIX in
    let n = c.args.number in
    let last = of c.last_digit-last.result ∷ [] in
    let w = c.in-Err.ensures.written in (
      w.0,
      (
        w.1.0,
        w.1.1,
        (
          w.1.2.0 ++ last,
          with_last of b n c.RADIX-2.result (of c.last_digit-last.result) w.1.2.0 c.RADIX-2.ensures (ap of c.last_digit-last.ensures)
              g.R.Radix.some (omega arith)
              w.1.2.1,
          (w.1.2.2.0, omega (arith, w.1.2.2.1, length-append w.1.2.0 last)),
        ),
      ),
    )
