use Rattle.std.proofs.Common.{refl}
use Rattle.nom_calls.specs.Func.AcceptsCut.{AtRest, AtNone}
use Rattle.nom_calls.proofs.func.accepted.Goals as goal

pub returns-in-Some : goal.returns-in-Some
returns-in-Some g c = AtRest c.in-Some.ensures.0 _ _ c.in-Some.ensures.1 c.in-Some.ensures.2 c.built.ensures refl

pub returns-in-None : goal.returns-in-None
returns-in-None g c = AtNone _ c.in-None.ensures c.no_rest.ensures refl
