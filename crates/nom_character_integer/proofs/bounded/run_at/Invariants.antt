use Rattle.std.proofs.Common.{◌<◌}
use Rattle.nom_character_integer.proofs.Counted.{IsPassing}
use Rattle.nom_character_integer.proofs.bounded.run_at.Given as goal

abbrev pub invariant-loop-item : goal.invariant-loop-item
invariant-loop-item g l =
    (goal.iterator-loop-item g).can_next l.item-iterator
    × (goal.iterator-loop-item g).is_finite l.item-iterator
    × IsPassing g.I.Items.model g.I.Item.Value.code l.fn.base l.fn.most l.fn.greatest (goal.iterator-loop-item g).next_gives l.fn.input l.value l.length
    l.count l.item-iterator
    × (l.count < l.fn.most)
