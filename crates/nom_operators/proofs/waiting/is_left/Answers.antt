use Rattle.std.proofs.Common.{arith, ap, sym, ◌∙◌}
use Rattle.nom_operators.specs.Groups.{is_left}
use Rattle.nom_operators.specs.declared.operation.Assoc.TheVariants.{Left}
use Rattle.nom_operators.proofs.waiting.is_left.Goals as goal

pub returns-in-Some-Left : goal.returns-in-Some-Left
returns-in-Some-Left c = ap is_left (sym c.in-Some-Left.field-0-is ∙ (c.in-Some-Left.ensures.lookup.3).1 Left)

pub returns-in-Some-Right : goal.returns-in-Some-Right
returns-in-Some-Right c = ap is_left (sym c.in-Some-Right.field-0-is ∙ (c.in-Some-Right.ensures.lookup.3).1 Left)

pub returns-in-None : goal.returns-in-None
returns-in-None c = ap is_left (c.in-None.ensures.lookup.4 (omega arith) Left)
