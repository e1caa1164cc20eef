use Rattle.std.proofs.Common.{arith}
use Rattle.nom_branch.specs.laws.NestedLaws.{last_length}
use Rattle.nom_branch.proofs.members.MoreNested.slots.Goals as goal

pub returns-clause-all : goal.returns-clause-all
returns-clause-all g c s = omega (arith, c.slots.ensures.all s.0, last_length (g.A.Parser.grammar s.1).meaning (g.M.Nested.members s.0))
