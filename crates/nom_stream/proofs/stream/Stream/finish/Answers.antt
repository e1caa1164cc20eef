use Rattle.std.proofs.Common.{arith}
use Rattle.nom_stream.proofs.Telling.{completed}
use Rattle.nom_stream.proofs.stream.Stream.finish.Goals as goal

pub returns-clause-ends : goal.returns-clause-ends
returns-clause-ends g c = completed _ _ _ _ _ _ _ c.tell.ensures.others.1 (omega (arith, c.len.ensures, c.if-len-eq0.false))
    c.if-not-self.false c.take-taken.ensures.takes c.take-taken.ensures.last c.tell.ensures.tells
