-- Orders of bytes.
use Rattle.std.specs.Prelude.{Bool, true, false}
use Rattle.nom_number.specs.declared.order.Endianness.{Endianness}
use Rattle.nom_number.specs.declared.order.Endianness.TheVariants.{Big, Little, Native}

-- is the highest byte the first one
abbrev pub is_big : Endianness → Bool
is_big Big = true
is_big Little = false
is_big Native = false
