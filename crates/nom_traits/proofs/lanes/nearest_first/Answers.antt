use Rattle.std.proofs.lemmas.Simd.{splat_is_map}
use Rattle.nom_traits.proofs.Nearest.{nearer}
use Rattle.nom_traits.proofs.lanes.nearest_first.Goals as goal

pub returns-clause-bytes : goal.returns-clause-bytes
returns-clause-bytes c = λ i. (c.type_inv.list i).fits

pub loop-k-init : goal.loop-k-init
loop-k-init c = splat_is_map c.args.block 16 255 c.fits-block.0

pub loop-k-preserved : goal.loop-k-preserved
loop-k-preserved c =
    nearer c.args.list.now c.args.block c.loop-k.nearest c.less_first.result c.loop-k.k c.loop-k-test.true c.loop-k.invariant c.less_first.ensures
