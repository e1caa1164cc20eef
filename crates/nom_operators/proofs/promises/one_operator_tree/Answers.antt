use Rattle.nom_operators.specs.Evaluations.{by_precedence}
use Rattle.nom_operators.specs.laws.OperatorTreeLaws.{no_other}
use Rattle.nom_operators.proofs.TreesExist.{has_tree}
use Rattle.nom_operators.proofs.promises.one_operator_tree.Goals as goal

pub returns-clause-tree : goal.returns-clause-tree
returns-clause-tree g c = has_tree g.row.P.Denot g.row.O.Denot g.row.Q.Denot g.row.B.Denot

pub returns-clause-other : goal.returns-clause-other
returns-clause-other g c = no_other by_precedence
