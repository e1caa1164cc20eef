use Rattle.nom_number_text.proofs.HexDigits.{IsHexRead}
use Rattle.nom_number_text.proofs.hex.number_of.Given as goal

abbrev pub invariant-loop-item : goal.invariant-loop-item
invariant-loop-item g l =
    (goal.iterator-loop-item g).can_next l.item-iterator
    × (goal.iterator-loop-item g).is_finite l.item-iterator
    × IsHexRead g.I.Item.Value.code (goal.iterator-loop-item g).next_gives (g.I.Items.model.elements l.fn.digits) l.value l.item-iterator
