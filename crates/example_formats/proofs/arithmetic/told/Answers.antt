use Rattle.std.proofs.Common.{refl, rules}
use Rattle.std.specs.Int.{w64}
use mir.Val.{SFits}
use Rattle.std.specs.declared.num.ParseIntError.{ParseIntError}
use Rattle.example_formats.proofs.Numbers.{number_missing, number_told}
use Rattle.example_formats.proofs.arithmetic.told.Goals as goal

pub returns-in-Ok : goal.returns-in-Ok
returns-in-Ok c =
    let fits : SFits w64 c.in-Ok.number = search rules in
    number_told ParseIntError c.utf8.digits fits c.in-Ok.ensures.value

pub returns-in-Err : goal.returns-in-Err
returns-in-Err c = (number_missing ParseIntError c.in-Err.field-0 c.utf8.digits c.in-Err.ensures.value, refl)
