use Rattle.std.proofs.Common.{true, false}
use Rattle.nom_traits.proofs.Walks.{IsWalking}
use Rattle.nom_traits.proofs.input.length_before.Given as goal

abbrev pub invariant-loop-item : goal.invariant-loop-item
invariant-loop-item g l =
    (goal.iterator-loop-item g).can_next l.item-iterator
    × (goal.iterator-loop-item g).is_finite l.item-iterator
    × IsWalking g.I.Items.model (λ x. goal.P-post g l.fn.predicate x false) (λ x. goal.P-post g l.fn.predicate x true)
    (goal.iterator-loop-item g).next_gives l.fn.input l.place l.item-iterator
