use Rattle.std.proofs.Common.{◌≡◌, sym, ◌∙◌}
use Rattle.nom_error.specs.contracts.answer.NeededPartialEq.TheImpl as Same
use Rattle.nom_error.proofs.Needs.{same_needs}
use Rattle.nom_error.proofs.laws.needs_are_equal.Goals as goal

pub returns : goal.returns
returns c =
    let e : c.eq.result ≡ Same.ghosts.eq c.args.needed c.args.other = c.eq.ensures in
    let law = same_needs c.args.needed c.args.other in
    (λ t. law.0 (sym e ∙ t), λ s. e ∙ law.1 s)
