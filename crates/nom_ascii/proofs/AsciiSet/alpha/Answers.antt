use Rattle.nom_ascii.specs.Sets.{alphas}
use Rattle.nom_ascii.proofs.Bits.{alphas_have}
use Rattle.nom_ascii.proofs.AsciiSet.alpha.Goals as goal

pub returns-clause-set : goal.returns-clause-set
unfolding alphas
returns-clause-set c = cc (c.and.ensures.set, c.span.ensures.set, c.span-2.ensures.set)

pub returns-clause-has : goal.returns-clause-has
returns-clause-has c = alphas_have _ (returns-clause-set c)
