use Rattle.std.proofs.Common.{ap, refl, sym, Err, subst}
use Rattle.nom_write_stream.proofs.Sending.{sends_none}
use Rattle.nom_messages_run.specs.Sent.{HaltsLine, IsStop}
use Rattle.nom_messages_run.proofs.write.write_line.Goals as goal

pub returns-in-Err-clause-sent : goal.returns-in-Err-clause-sent
returns-in-Err-clause-sent g c = (
  c.in-Err.ensures.error.0,
  HaltsLine.NotSent c.in-Ok.message c.in-Err.why (c.in-Ok.field-0-0, (c.args.line, refl, c.in-Ok.ensures.shown)) c.in-Err.ensures.error.1
      c.halt_of.ensures,
)

pub returns-in-Err-OutOfMemory-clause-sent : goal.returns-in-Err-OutOfMemory-clause-sent
returns-in-Err-OutOfMemory-clause-sent g c = absurd (c.in-Err-OutOfMemory.ensures.memory (ap (λ z. Err z) c.in-Err-OutOfMemory.field-0-is))

pub returns-in-Err-Error-clause-sent : goal.returns-in-Err-Error-clause-sent
returns-in-Err-Error-clause-sent g c = (
  sends_none g.W.Write.contents c.args.outgoing.now c.args.outgoing.now refl refl,
  HaltsLine.Refused
      (Err c.in-Err-Error.field-0, subst (λ z. IsStop (Err z)) (sym c.in-Err-Error.field-0-is) tt, (c.args.line, refl, c.in-Err-Error.ensures.shown))
      (refl, refl) refl,
)

pub returns-in-Err-Failure-clause-sent : goal.returns-in-Err-Failure-clause-sent
returns-in-Err-Failure-clause-sent g c = (
  sends_none g.W.Write.contents c.args.outgoing.now c.args.outgoing.now refl refl,
  HaltsLine.Refused
      (Err c.in-Err-Failure.field-0, subst (λ z. IsStop (Err z)) (sym c.in-Err-Failure.field-0-is) tt, (c.args.line, refl, c.in-Err-Failure.ensures.shown))
      (refl, refl) refl,
)

pub returns-in-Err-Incomplete-clause-sent : goal.returns-in-Err-Incomplete-clause-sent
returns-in-Err-Incomplete-clause-sent g c = (
  sends_none g.W.Write.contents c.args.outgoing.now c.args.outgoing.now refl refl,
  HaltsLine.Refused (
    Err c.in-Err-Incomplete.field-0,
    subst (λ z. IsStop (Err z)) (sym c.in-Err-Incomplete.field-0-is) tt,
    (c.args.line, refl, c.in-Err-Incomplete.ensures.shown),
  ) (refl, refl) refl,
)
