use Rattle.nom_number_text.proofs.PartDigits.{IsKept}
use Rattle.nom_number_text.proofs.part.kept_len.Given as goal

abbrev pub invariant-loop-item : goal.invariant-loop-item
invariant-loop-item g l =
    (goal.iterator-loop-item g).can_next l.item-iterator
    × (goal.iterator-loop-item g).is_finite l.item-iterator
    × IsKept g.I.Items.model.item_len g.I.Item.Value.code (goal.iterator-loop-item g).next_gives (g.I.Items.model.elements l.fn.digits) l.place l.kept
    l.item-iterator
