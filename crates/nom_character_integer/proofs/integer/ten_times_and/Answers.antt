use Rattle.std.proofs.Common.{◌+◌, ◌*◌, Some, None, subst, sym}
use Rattle.num_traits.specs.Laws.{Checks}
use Rattle.nom_character_integer.specs.Integers.{with_sign}
use Rattle.nom_character_integer.specs.laws.IntegerLaws.{range_of}
use Rattle.nom_character_integer.proofs.Signs.{no_tens, one_less, one_more}
use Rattle.nom_character_integer.proofs.integer.ten_times_and.Goals as goal

pub returns-in_err-tens : goal.returns-in_err-tens
returns-in_err-tens g c n d e ten one =
    let range = range_of g.T.Number.fits g.T.Number.exact g.met.T.Integral.exact_law g.met.T.FixedWidth.small_fits_law g.T.Number.between_law in
    let none = g.met.T.CheckedMul.checked_mul_law c.args.number c.args.ten None c.in_err-tens.ensures in
    subst (Checks g.T.Number.value g.T.Number.fits (with_sign c.args.negative (10 * n + d))) (sym c.from_residual.ensures)
    (no_tens g.T.Number.value g.T.Number.fits range c.args.negative c.args.number c.args.ten n d e ten none)

pub returns-then-negative : goal.returns-then-negative
returns-then-negative g c n d e ten one =
    let range = range_of g.T.Number.fits g.T.Number.exact g.met.T.Integral.exact_law g.met.T.FixedWidth.small_fits_law g.T.Number.between_law in
    let tens = g.met.T.CheckedMul.checked_mul_law c.args.number c.args.ten (Some c.in_ok-tens.tens) c.in_ok-tens.ensures in
    one_less g.T.Number.value g.T.Number.fits range c.args.negative c.args.number c.args.ten n d e ten c.in_ok-tens.tens c.args.ones tens.1 one
    c.checked_sub.result c.if-negative.true (g.met.T.CheckedSub.checked_sub_law c.in_ok-tens.tens c.args.ones c.checked_sub.result c.checked_sub.ensures)

pub returns-else-negative : goal.returns-else-negative
returns-else-negative g c n d e ten one =
    let range = range_of g.T.Number.fits g.T.Number.exact g.met.T.Integral.exact_law g.met.T.FixedWidth.small_fits_law g.T.Number.between_law in
    let tens = g.met.T.CheckedMul.checked_mul_law c.args.number c.args.ten (Some c.in_ok-tens.tens) c.in_ok-tens.ensures in
    one_more g.T.Number.value g.T.Number.fits range c.args.negative c.args.number c.args.ten n d e ten c.in_ok-tens.tens c.args.ones tens.1 one
    c.checked_add.result c.if-negative.false (g.met.T.CheckedAdd.checked_add_law c.in_ok-tens.tens c.args.ones c.checked_add.result c.checked_add.ensures)
