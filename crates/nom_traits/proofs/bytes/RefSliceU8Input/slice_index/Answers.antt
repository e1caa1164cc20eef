use Rattle.nom_traits.proofs.ByteCuts.{byte_count}
use Rattle.nom_traits.proofs.bytes.RefSliceU8Input.slice_index.Goals as goal

pub returns-then-self-count : goal.returns-then-self-count
returns-then-self-count c = byte_count c.args.self.now c.args.count c.if-self-count.true
