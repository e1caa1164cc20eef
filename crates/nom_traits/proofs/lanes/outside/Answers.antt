use Rattle.std.proofs.Common.{arith}
use Rattle.nom_traits.proofs.Nearest.{listed_marks, unlisted_marks}
use Rattle.nom_traits.proofs.lanes.outside.Goals as goal

pub returns-in-OneOf : goal.returns-in-OneOf
returns-in-OneOf c = unlisted_marks c.in-OneOf.list c.nearest.ensures.bytes 32 c.args.block c.nearest.result (omega arith)
    c.fits-block.0 c.fits-block.1 c.nearest.ensures.nearest c.args.set c.in-OneOf.is

pub returns-in-NoneOf : goal.returns-in-NoneOf
returns-in-NoneOf c = listed_marks c.in-NoneOf.list c.nearest-in-NoneOf.ensures.bytes 32 c.args.block c.nearest-in-NoneOf.result (omega arith)
    c.fits-block.0 c.fits-block.1 c.nearest-in-NoneOf.ensures.nearest c.args.set c.in-NoneOf.is
