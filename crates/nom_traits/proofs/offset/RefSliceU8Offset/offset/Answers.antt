use Rattle.nom_traits.proofs.ByteCuts.{bytes_offset}
use Rattle.nom_traits.proofs.offset.RefSliceU8Offset.offset.Goals as goal

pub returns : goal.returns
returns c = bytes_offset c.args.self.now c.args.second.now c.requires.0 c.requires.1
