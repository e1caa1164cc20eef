use Rattle.std.proofs.Common.{take}
use Rattle.nom_internal.specs.Prelude.{bits_model, spelled}
use Rattle.nom_bits.proofs.Spellings.{IsSpelling}
use Rattle.nom_bits.proofs.field.spelling.Given as goal

abbrev pub invariant-loop-byte : goal.invariant-loop-byte
invariant-loop-byte g l =
    (goal.iterator-loop-byte g).can_next l.byte-iterator
    × (goal.iterator-loop-byte g).is_finite l.byte-iterator
    × IsSpelling (goal.iterator-loop-byte g).next_gives (spelled (take l.fn.count ((bits_model g.I.Items.model).elements l.fn.start))) l.left l.passed
    l.value l.byte-iterator
