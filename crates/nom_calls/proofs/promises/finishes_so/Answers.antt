use Rattle.nom_calls.proofs.Giving.{finishes_so}
use Rattle.nom_calls.proofs.promises.finishes_so.Goals as goal

pub returns : goal.returns
returns g c = finishes_so g.I.Items.model g.F.Parser.grammar (λ x. g.F.Parser.state x.parser) (λ x. x.input)
    (λ x. x.state) c.args._iterator.now
