use Rattle.nom_ascii.specs.Sets.{alphanumerics}
use Rattle.nom_ascii.proofs.Bits.{alphanumerics_have}
use Rattle.nom_ascii.proofs.AsciiSet.alphanumeric.Goals as goal

pub returns-clause-set : goal.returns-clause-set
unfolding alphanumerics
returns-clause-set c = cc (c.and.ensures.set, c.alpha.ensures.set, c.digit.ensures.set)

pub returns-clause-has : goal.returns-clause-has
returns-clause-has c = alphanumerics_have _ (returns-clause-set c)
