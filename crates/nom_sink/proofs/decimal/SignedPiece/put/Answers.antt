use Rattle.std.proofs.Common.{sym, subst}
use Rattle.nom_sink.specs.Numerals.{IsSigned, LacksSigned}
use Rattle.nom_sink.specs.Written.{Written}
use Rattle.nom_sink.proofs.decimal.SignedPiece.put.Goals as goal

pub returns-then-self-clause-written : goal.returns-then-self-clause-written
returns-then-self-clause-written g c =
    let of = g.T.OfCode.of_code in
    subst (λ b. Written (IsSigned of b c.args.self.now.1) (LacksSigned of b c.args.self.now.1) g.S.Sink.model
    c.args.out.now c.put.new.out c.put.result) (sym c.if-self.true) c.put.ensures.written

pub returns-else-self-clause-written : goal.returns-else-self-clause-written
returns-else-self-clause-written g c =
    let of = g.T.OfCode.of_code in
    subst (λ b. Written (IsSigned of b c.args.self.now.1) (LacksSigned of b c.args.self.now.1) g.S.Sink.model
    c.args.out.now c.write_digits.new.out c.write_digits.result) (sym c.if-self.false) c.write_digits.ensures.written
