use Rattle.nom_ascii.specs.Sets.{digits}
use Rattle.nom_ascii.proofs.Bits.{digits_have}
use Rattle.nom_ascii.proofs.AsciiSet.digit.Goals as goal

pub returns-clause-set : goal.returns-clause-set
unfolding digits
returns-clause-set c = cc (c.span.ensures.set)

pub returns-clause-has : goal.returns-clause-has
returns-clause-has c = digits_have _ (returns-clause-set c)
