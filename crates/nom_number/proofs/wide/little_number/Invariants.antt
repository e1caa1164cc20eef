use Rattle.nom_number.specs.declared.order.Endianness.TheVariants.{Little}
use Rattle.nom_number.proofs.Sums.{IsSummed}
use Rattle.nom_number.proofs.wide.little_number.Given as goal

abbrev pub invariant-loop-byte : goal.invariant-loop-byte
invariant-loop-byte g l =
    (goal.iterator-loop-byte g).can_next l.byte-iterator
    × (goal.iterator-loop-byte g).is_finite l.byte-iterator
    × IsSummed Little (goal.iterator-loop-byte g).next_gives (g.I.Items.model.elements l.fn.bytes) l.place l.value l.byte-iterator
