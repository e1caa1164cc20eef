use Rattle.nom_number_text.proofs.PartDigits.{IsZeros}
use Rattle.nom_number_text.proofs.part.zeros_len.Given as goal

abbrev pub invariant-loop-item : goal.invariant-loop-item
invariant-loop-item g l =
    (goal.iterator-loop-item g).can_next l.item-iterator
    × (goal.iterator-loop-item g).is_finite l.item-iterator
    × IsZeros g.I.Items.model.item_len g.I.Item.Value.code (goal.iterator-loop-item g).next_gives (g.I.Items.model.elements l.fn.digits) l.place l.item-iterator
