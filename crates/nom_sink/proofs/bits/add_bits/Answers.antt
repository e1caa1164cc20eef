use Rattle.std.proofs.Common.{arith, ◌∙◌, sym}
use Rattle.nom_sink.proofs.Digits.{big_added, little_added}
use Rattle.nom_sink.proofs.bits.add_bits.Goals as goal

pub returns-then-is_big-clause-written : goal.returns-then-is_big-clause-written
returns-then-is_big-clause-written g c = big_added g.S.Sink.model c.args.out.now c.add.new.self c.add.result _ 16 _ _ _ c.to_be_bytes-bytes.ensures (sym
    c.is_big.ensures ∙ c.if-is_big.true) (omega (arith, c.requires.count)) c.requires.fits c.add.ensures.written

pub returns-else-is_big-clause-written : goal.returns-else-is_big-clause-written
returns-else-is_big-clause-written g c = little_added g.S.Sink.model c.args.out.now c.add-else-is_big.new.self c.add-else-is_big.result _ 16 _ _ _
    c.to_le_bytes-bytes.ensures (sym c.is_big.ensures ∙ c.if-is_big.false) (omega (arith, c.requires.count)) c.requires.fits c.add-else-is_big.ensures.written
