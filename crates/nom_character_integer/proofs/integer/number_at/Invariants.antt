use Rattle.nom_character_integer.proofs.Readings.{IsReading}
use Rattle.nom_character_integer.proofs.integer.number_at.Given as goal

abbrev pub invariant-loop-length : goal.invariant-loop-length
invariant-loop-length g l =
    (goal.iterator-loop-length g).can_next l.length-iterator
    × (goal.iterator-loop-length g).is_finite l.length-iterator
    × IsReading g.I.Items.model g.I.Item.Value.code g.T.Number.value g.T.Number.fits l.fn.negative (goal.iterator-loop-length g).next_gives
    l.fn.input l.value l.length-iterator
