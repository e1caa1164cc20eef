use Rattle.std.proofs.lemmas.Simd.{zip2_splat}
use Rattle.nom_traits.proofs.lanes.less.Goals as goal

pub returns : goal.returns
returns c = zip2_splat _ c.args.block 32 c.args.low c.fits-block.0
