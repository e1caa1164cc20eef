use Rattle.std.proofs.Common.{◌∙◌, sym, arith}
use Rattle.nom_character_integer.specs.laws.IntegerLaws.{range_of}
use Rattle.nom_character_integer.proofs.Signs.{one_digit_more}
use Rattle.nom_character_integer.proofs.Tenths.{ten_times_fit}
use Rattle.nom_character_integer.proofs.integer.followed_by.Goals as goal

pub returns : goal.returns
returns g c n e =
    let exact = g.met.T.Integral.exact_law in
    c.ten_times_and.ensures n c.args.digit e (c.in_ok-ten.ensures.value exact).0.1 (c.in_ok-ones.ensures.value exact).0.1

pub ten_times_more-requires : goal.ten_times_more-requires
ten_times_more-requires g c =
    let exact = g.met.T.Integral.exact_law in
    let zero = g.met.T.FixedWidth.small_fits_law 0 (omega arith) in
    let range = range_of g.T.Number.fits g.T.Number.exact exact g.met.T.FixedWidth.small_fits_law g.T.Number.between_law in
    ten_times_fit g.T.Number.value g.T.Number.fits range g.T.PartialOrd.partial_cmp c.args.number c.tenth_of_greatest.result c.in_ok-ten.ten g.T.Bounded.high
    (c.requires.sign c.if-not-negative.true) ((g.met.T.Bounded.bounds_law _ exact).0 zero).1 (g.met.T.Bounded.high_fits_law exact)
    (g.met.T.Number.order_law c.args.number c.tenth_of_greatest.result exact) c.tenth_of_greatest.ensures (c.in_ok-ten.ensures.value exact).0.1
    (sym c.lt.ensures ∙ c.if-lt.true) c.in_ok-ones.ones c.args.digit c.requires.digit (c.in_ok-ones.ensures.value exact).0.1

pub returns-then-lt : goal.returns-then-lt
returns-then-lt g c n e =
    let exact = g.met.T.Integral.exact_law in
    let range = range_of g.T.Number.fits g.T.Number.exact exact g.met.T.FixedWidth.small_fits_law g.T.Number.between_law in
    one_digit_more g.T.Number.value g.T.Number.fits range c.args.negative c.args.number c.in_ok-ten.ten n c.args.digit e
    (c.in_ok-ten.ensures.value exact).0.1 c.in_ok-ones.ones (c.in_ok-ones.ensures.value exact).0.1 c.if-not-negative.true c.ten_times_more.result
    c.ten_times_more.ensures.fits c.ten_times_more.ensures.value
