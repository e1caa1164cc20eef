use Rattle.std.proofs.Common.{true, false}
use Rattle.nom_traits.proofs.PlaceWalks.{IsPassing}
use Rattle.nom_traits.proofs.input.first_place.Given as goal

abbrev pub invariant-loop-place : goal.invariant-loop-place
invariant-loop-place g l =
    (goal.iterator-loop-place g).can_next l.place-iterator
    × (goal.iterator-loop-place g).is_finite l.place-iterator
    × IsPassing g.I.Items.model (λ x. goal.P-post g l.fn.predicate x false) (λ x. goal.P-post g l.fn.predicate x true)
    (goal.iterator-loop-place g).next_gives l.fn.input l.place-iterator
