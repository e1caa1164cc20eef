use Rattle.std.proofs.Common.{bit_or}
use Rattle.std.proofs.lemmas.Simd.{zip2_splat}
use Rattle.nom_traits.proofs.lanes.in_lower_case_first.Goals as goal

pub returns : goal.returns
returns c = zip2_splat bit_or c.args.block 16 32 c.fits-block.0
