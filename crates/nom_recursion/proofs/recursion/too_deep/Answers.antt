use Rattle.std.proofs.Common.{refl}
use Rattle.nom_recursion.proofs.Below.{deep_fails, deep_runs_out}
use Rattle.nom_recursion.proofs.recursion.too_deep.Goals as goal

pub returns-in-Ok : goal.returns-in-Ok
returns-in-Ok g c = deep_fails _ _ _ _ _ _ c.in-Ok.ensures refl

pub returns-in-Err : goal.returns-in-Err
returns-in-Err g c = deep_runs_out _ _ _ _ _ c.in-Err.ensures refl
