use Rattle.std.proofs.Common.{refl}
use Rattle.nom_internal.specs.Prelude.{bytes_lawful}
use Rattle.nom_calls.proofs.FuncSound.{outright_stream_func}
use Rattle.example_parts.proofs.functions.grown_nothing.Goals as goal

pub grown-requires-clause-sound : goal.grown-requires-clause-sound
grown-requires-clause-sound c = outright_stream_func bytes_lawful (λ i. 0) (λ i r g. g) (λ longer i j r. refl)
