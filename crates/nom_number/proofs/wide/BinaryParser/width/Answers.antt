use Rattle.nom_number.specs.Numbers.{binary_number}
use Rattle.nom_number.proofs.Widths.{number_width}
use Rattle.nom_number.proofs.wide.BinaryParser.width.Goals as goal

pub returns : goal.returns
returns g c = number_width g.I.Items.model g.E.ParseError.errors (λ bytes. g.F.Layout.of_bits (binary_number c.args.self.now.endian bytes)) _ c.BYTES.ensures
