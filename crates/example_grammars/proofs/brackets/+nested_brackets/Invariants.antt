use Rattle.std.proofs.Common.{length}
use Rattle.example_grammars.proofs.brackets.+nested_brackets.Given as goal

abbrev pub decreases-nested_brackets : goal.decreases-nested_brackets
decreases-nested_brackets l = length l.input.now
