use Rattle.std.proofs.Common.{rules}
use Rattle.std.specs.Int.{w64}
use mir.Val.{SFits}
use Rattle.example_formats.proofs.Numbers.{joins_both}
use Rattle.example_formats.proofs.arithmetic.joined.Goals as goal

pub returns-in-Ok-y : goal.returns-in-Ok-y
returns-in-Ok-y c =
    let left : SFits w64 c.in-Ok.x = search rules in
    let right : SFits w64 c.in-Ok-y.y = search rules in
    joins_both c.args.operator left right c.in-Ok.is c.in-Ok-y.is c.operated.ensures
