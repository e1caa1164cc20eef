use Rattle.std.proofs.Common.{refl}
use Rattle.nom_stream.specs.Functions.CutsRest.{AtRest, AtNone}
use Rattle.nom_stream.proofs.function.cut.Goals as goal

pub returns-in-Some : goal.returns-in-Some
returns-in-Some g c = AtRest c.in-Some.ensures.0 _ c.in-Some.ensures.1 c.in-Some.ensures.2 refl

pub returns-in-None : goal.returns-in-None
returns-in-None g c = AtNone c.in-None.ensures refl
