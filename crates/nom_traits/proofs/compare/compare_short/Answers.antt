use Rattle.std.proofs.Common.{arith}
use Rattle.nom_traits.specs.CompareTags.{itself_form}
use Rattle.nom_traits.proofs.ByteCompared.{fronts_differ, fronts_more, fronts_are, compared_error, compared_incomplete}
use Rattle.nom_traits.proofs.compare.compare_short.Goals as goal

pub returns-then-byte-wanted : goal.returns-then-byte-wanted
returns-then-byte-wanted c =
    compared_error (λ t. t) itself_form _ _ _ (omega (arith, c.requires))
    (fronts_differ _ _ c.loop-i.i _ c.loop-i-test.true c.if-byte-wanted.true)

pub loop-i-preserved : goal.loop-i-preserved
loop-i-preserved c = fronts_more _ _ c.loop-i.i _ (omega (arith, c.requires)) c.loop-i-test.true c.loop-i.invariant c.if-byte-wanted.false

pub returns : goal.returns
returns c =
    compared_incomplete (λ t. t) itself_form _ _ _ (omega (arith, c.requires))
    (fronts_are _ _ c.loop-i.i _ c.loop-i.auto.i-end c.loop-i-test.false c.loop-i.invariant) c.requires
