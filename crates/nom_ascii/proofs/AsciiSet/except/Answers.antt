use Rattle.std.proofs.Common.{refl, rules}
use Rattle.nom_ascii.specs.Sets.{except_of}
use Rattle.nom_ascii.proofs.Bits.{except_holds}
use Rattle.nom_ascii.proofs.AsciiSet.except.Goals as goal

pub returns : goal.returns
unfolding except_of
returns c = record { set = refl; has = except_holds c.args.self c.args.other (search rules) }
