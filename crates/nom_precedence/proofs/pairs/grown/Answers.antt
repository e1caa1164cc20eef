use Rattle.std.proofs.Common.{refl}
use Rattle.nom_precedence.proofs.pairs.grown.Goals as goal

pub returns-in-Some-clause-grown : goal.returns-in-Some-clause-grown
returns-in-Some-clause-grown g c = rw c.in-Some-Some.is-0 (rw c.in-Some-Some.is-1 (_, refl, (c.in-Some.ensures.pushed, c.in-Some.ensures.nested)))
