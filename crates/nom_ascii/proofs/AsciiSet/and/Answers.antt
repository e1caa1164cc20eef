use Rattle.std.proofs.Common.{refl}
use Rattle.nom_ascii.specs.Sets.{and_of}
use Rattle.nom_ascii.proofs.Bits.{and_holds}
use Rattle.nom_ascii.proofs.AsciiSet.and.Goals as goal

pub returns : goal.returns
unfolding and_of
returns c = record { set = refl; has = and_holds c.args.self c.args.other }
