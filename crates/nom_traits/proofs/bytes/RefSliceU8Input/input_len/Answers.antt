use Rattle.std.proofs.Common.{sym}
use Rattle.nom_traits.specs.Rests.{items_len-ones}
use Rattle.nom_traits.proofs.bytes.RefSliceU8Input.input_len.Goals as goal

pub returns : goal.returns
returns c = sym (items_len-ones c.args.self.now.now)
