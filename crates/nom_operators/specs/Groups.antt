-- How operators of one level are grouped.
use Rattle.std.specs.Prelude.{ℕ, Bool, true, false, List}
use Rattle.std.proofs.Math.ListN.{get_or}
use Rattle.nom_operators.specs.declared.operation.Assoc.{Assoc}
use Rattle.nom_operators.specs.declared.operation.Assoc.TheVariants.{Left, Right}

abbrev pub is_left : Assoc → Bool
is_left Left = true
is_left Right = false

-- whether operators of a level are grouped from the left
abbrev pub groups_left : List Assoc → ℕ → Bool
groups_left levels k = is_left (get_or levels k Left)
