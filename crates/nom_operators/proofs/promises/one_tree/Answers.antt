use Rattle.nom_operators.specs.Groups.{groups_left}
use Rattle.nom_operators.proofs.OneTree.{tree_of, tree_is, tree_only}
use Rattle.nom_operators.proofs.promises.one_tree.Goals as goal

pub returns : goal.returns
returns g c t ps =
    let left = groups_left c.args.levels.now in
    (tree_of (λ o. o.0) left t ps, tree_is (λ o. o.0) left t ps, tree_only (λ o. o.0) left t ps)
