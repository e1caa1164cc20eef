use Rattle.std.specs.Prelude.{false}
use Rattle.nom_internal.specs.Prelude.{value_pinned}
use Rattle.nom_calls.proofs.FuncSound.{func_sound}
use Rattle.example_grammars.specs.Brackets.{brackets_lawful}
use Rattle.example_grammars.proofs.brackets.brackets_line.Goals as goal

pub answer_once-requires-clause-sound : goal.answer_once-requires-clause-sound
answer_once-requires-clause-sound c = (func_sound false brackets_lawful value_pinned (λ i r h g. g), tt)
