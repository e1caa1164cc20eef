use Rattle.std.proofs.Common.{arith}
use Rattle.std.proofs.lemmas.Str.{encodes-chars}
use Rattle.nom_traits.proofs.text.RefStrItems.known.Goals as goal

pub returns : goal.returns
returns c = (c.utf8.self, omega arith, encodes-chars c.args.self.now c.utf8.self)
