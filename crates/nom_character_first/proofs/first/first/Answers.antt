use Rattle.nom_character_first.proofs.Firsts.{first_given}
use Rattle.nom_character_first.proofs.first.first.Goals as goal

pub returns : goal.returns
returns g c =
    first_given g.I.Items.model g.I.Iter.Iterator.next_gives c.iter_elements.result c.next.new.self c.args.input c.next.result
    c.iter_elements.ensures.gives c.next.ensures.steps
