use Rattle.nom_calls.proofs.Giving.{gives_items, ends_there, stays_ended}
use Rattle.nom_calls.proofs.promises.gives_items.Goals as goal

pub returns-clause-items : goal.returns-clause-items
returns-clause-items g c = gives_items g.I.Items.model g.F.Parser.grammar (λ x. g.F.Parser.state x.parser) (λ x. x.input)
    (λ x. x.state) c.args._iterator.now

pub returns-clause-ends : goal.returns-clause-ends
returns-clause-ends g c = ends_there g.I.Items.model g.F.Parser.grammar (λ x. g.F.Parser.state x.parser) (λ x. x.input)
    (λ x. x.state) c.args._iterator.now

pub returns-clause-stays : goal.returns-clause-stays
returns-clause-stays g c = stays_ended g.I.Items.model g.F.Parser.grammar (λ x. g.F.Parser.state x.parser) (λ x. x.input)
    (λ x. x.state) c.args._iterator.now
