use Rattle.nom_ascii.specs.Sets.{span_of}
use Rattle.nom_ascii.proofs.Bits.{span_has}
use Rattle.nom_ascii.proofs.AsciiSet.span.Goals as goal

pub returns-clause-set : goal.returns-clause-set
unfolding span_of
returns-clause-set c = cc (c.saturating_sub.ensures, c.ones-below.ensures, c.ones-to_last.ensures)

pub returns-clause-has : goal.returns-clause-has
returns-clause-has c = span_has c.args.first c.args.last _ (returns-clause-set c)
