use Rattle.std.proofs.Common.{length, ap}
use Rattle.nom_internal.specs.Prelude.{bytes_lawful}
use Rattle.nom_calls.proofs.FuncSound.{outright_func}
use Rattle.example_parts.proofs.functions.measured.Goals as goal

pub complete-requires-clause-sound : goal.complete-requires-clause-sound
complete-requires-clause-sound c = outright_func bytes_lawful (λ i. length i.now) (λ i r g. g) (λ i j r. ap length r.elements_are)
