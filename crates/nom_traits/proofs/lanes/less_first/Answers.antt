use Rattle.std.proofs.lemmas.Simd.{zip2_splat}
use Rattle.nom_traits.proofs.lanes.less_first.Goals as goal

pub returns : goal.returns
returns c = zip2_splat _ c.args.block 16 c.args.low c.fits-block.0
