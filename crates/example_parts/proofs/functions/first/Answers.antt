use Rattle.std.proofs.Common.{ap}
use Rattle.example_parts.specs.Firsts.{first_outcome}
use Rattle.example_parts.proofs.FirstItem.{after_first}
use Rattle.example_parts.proofs.functions.first.Goals as goal

pub returns-in-Some : goal.returns-in-Some
returns-in-Some c = (1, after_first c.known.ensures c.in-Some.ensures.cases.0, ap first_outcome c.in-Some.ensures.cases.0)
