use Rattle.std.proofs.Common.{sym, ◌∙◌}
use Rattle.nom_number.proofs.Bytes.{first_built}
use Rattle.nom_number.proofs.binary.first_byte.Goals as goal

pub returns-then-BUILDS : goal.returns-then-BUILDS
returns-then-BUILDS g c =
    first_built _ g.I.Iter.Iterator.next_gives c.iter_elements.result c.next.new.self (g.I.Items.model.elements c.args.input) _
    (sym c.BUILDS.ensures ∙ c.if-BUILDS.true) c.requires c.iter_elements.ensures.gives c.next.ensures.steps
