use Rattle.example_parts.proofs.FirstItem.{after_first, small_first}
use Rattle.example_parts.proofs.functions.small.Goals as goal

pub returns-then-byte-lt128 : goal.returns-then-byte-lt128
returns-then-byte-lt128 c = (1, after_first c.known.ensures c.in-Some.ensures.cases.0, small_first c.in-Some.ensures.cases.0 c.if-byte-lt128.true)
