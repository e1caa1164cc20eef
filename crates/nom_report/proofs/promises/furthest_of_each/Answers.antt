use Rattle.std.proofs.Common.{map}
use Rattle.nom_report.proofs.Each.{each_tells}
use Rattle.nom_report.proofs.promises.furthest_of_each.Goals as goal

pub returns : goal.returns
returns g c s =
    each_tells g.I.Items.model g.I.Placed.place (λ t. (g.A.Parser.grammar t).meaning) g.met.A.Parser.lawful s (map g.A.Parser.state c.args._branches.now)
    c.requires
