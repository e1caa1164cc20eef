use Rattle.std.proofs.Common.{refl}
use Rattle.nom_internal.specs.Prelude.{value_of}
use Rattle.nom_number.proofs.Widths.{number_width}
use Rattle.nom_number.proofs.binary.BeU8Parser.width.Goals as goal

pub returns : goal.returns
returns g c = number_width g.I.Items.model g.E.ParseError.errors (value_of 256) 1 refl
