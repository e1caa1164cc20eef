use Rattle.nom_ascii.proofs.Bits.{held}
use Rattle.nom_ascii.proofs.AsciiSetFindTokenU8.find_token.Goals as goal

pub returns : goal.returns
returns c = held _ _ _ c.has.ensures
