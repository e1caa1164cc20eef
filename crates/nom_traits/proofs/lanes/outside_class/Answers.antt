use Rattle.std.proofs.Common.{arith, refl}
use Rattle.std.proofs.lemmas.Simd.{zip2_splat, zip2_of_maps}
use Rattle.nom_traits.specs.declared.character.AsciiClass.TheVariants as Class
use Rattle.nom_traits.proofs.ByteLanes.{not_digits, not_letters, class_marks}
use Rattle.nom_traits.proofs.lanes.outside_class.Goals as goal

pub returns-in-Alpha : goal.returns-in-Alpha
returns-in-Alpha c = class_marks c.args.class Class.Alpha c.in-Alpha.is _ refl c.args.block _ (omega arith) c.fits-block.0 c.fits-block.1
    (not_letters c.args.block c.in_lower_case.result c.less-letters.result 26 c.fits-block.0 c.in_lower_case.ensures c.less-letters.ensures)

pub returns-in-Digit : goal.returns-in-Digit
returns-in-Digit c = class_marks c.args.class Class.Digit c.in-Digit.is _ refl c.args.block _ (omega arith) c.fits-block.0 c.fits-block.1
    (not_digits c.args.block c.less-digits.result 10 c.fits-block.0 c.less-digits.ensures)

pub returns-in-HexDigit : goal.returns-in-HexDigit
returns-in-HexDigit c = class_marks c.args.class Class.HexDigit c.in-HexDigit.is _ refl c.args.block _ (omega arith) c.fits-block.0 c.fits-block.1
    (zip2_of_maps _ _ _ c.args.block (not_digits c.args.block c.less-digits.result 10 c.fits-block.0 c.less-digits.ensures)
    (not_letters c.args.block c.in_lower_case.result c.less-letters.result 6 c.fits-block.0 c.in_lower_case.ensures c.less-letters.ensures))

pub returns-in-OctDigit : goal.returns-in-OctDigit
returns-in-OctDigit c = class_marks c.args.class Class.OctDigit c.in-OctDigit.is _ refl c.args.block _ (omega arith) c.fits-block.0 c.fits-block.1
    (not_digits c.args.block c.less-digits.result 8 c.fits-block.0 c.less-digits.ensures)

pub returns-in-BinDigit : goal.returns-in-BinDigit
returns-in-BinDigit c = class_marks c.args.class Class.BinDigit c.in-BinDigit.is _ refl c.args.block _ (omega arith) c.fits-block.0 c.fits-block.1
    (not_digits c.args.block c.less-digits.result 2 c.fits-block.0 c.less-digits.ensures)

pub returns-in-Alphanumeric : goal.returns-in-Alphanumeric
returns-in-Alphanumeric c = class_marks c.args.class Class.Alphanumeric c.in-Alphanumeric.is _ refl c.args.block _ (omega arith) c.fits-block.0 c.fits-block.1
    (zip2_of_maps _ _ _ c.args.block (not_digits c.args.block c.less-digits.result 10 c.fits-block.0 c.less-digits.ensures)
    (not_letters c.args.block c.in_lower_case.result c.less-letters.result 26 c.fits-block.0 c.in_lower_case.ensures c.less-letters.ensures))

pub returns-in-Space : goal.returns-in-Space
returns-in-Space c = class_marks c.args.class Class.Space c.in-Space.is _ refl c.args.block _ (omega arith) c.fits-block.0 c.fits-block.1
    (zip2_of_maps _ _ _ c.args.block (zip2_splat _ c.args.block 32 32 c.fits-block.0) (zip2_splat _ c.args.block 32 9 c.fits-block.0))

pub returns-in-MultiSpace : goal.returns-in-MultiSpace
returns-in-MultiSpace c = class_marks c.args.class Class.MultiSpace c.in-MultiSpace.is _ refl c.args.block _ (omega arith) c.fits-block.0 c.fits-block.1
    (zip2_of_maps _ _ _ c.args.block
    (zip2_of_maps _ _ _ c.args.block
    (zip2_of_maps _ _ _ c.args.block (zip2_splat _ c.args.block 32 32 c.fits-block.0) (zip2_splat _ c.args.block 32 9 c.fits-block.0))
    (zip2_splat _ c.args.block 32 13 c.fits-block.0)) (zip2_splat _ c.args.block 32 10 c.fits-block.0))
