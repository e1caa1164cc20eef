use Rattle.std.proofs.Common.{arith}
use Rattle.nom_bits.proofs.Spellings.{extends_to}
use Rattle.nom_bits.proofs.field.extended.Goals as goal

pub overflow_add-result : goal.overflow_add-result
overflow_add-result c = omega (arith, extends_to c.args.value c.args.byte c.args.passed c.args.width c.requires.within c.requires.fits, c.requires.fits)

pub returns : goal.returns
returns c = extends_to c.args.value c.args.byte c.args.passed c.args.width c.requires.within c.requires.fits
