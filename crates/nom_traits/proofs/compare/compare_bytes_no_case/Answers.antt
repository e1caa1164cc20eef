use Rattle.std.specs.Str.{str_to_ascii_lowercase}
use Rattle.nom_traits.specs.CompareTags.{folded_form}
use Rattle.nom_traits.proofs.ByteCompared.{fronts_differ, fronts_more, fronts_are, compared_error, compared_ok, compared_incomplete, folded_min}
use Rattle.nom_traits.proofs.ByteCompared.{folded_same, folded_other}
use Rattle.nom_traits.proofs.compare.compare_bytes_no_case.Goals as goal

pub returns-then-byte-wanted : goal.returns-then-byte-wanted
returns-then-byte-wanted c =
    let other = folded_other _ _ c.loop-i.i _ _ _ c.min-n.ensures c.loop-i-test.true c.to_ascii_lowercase-byte.ensures.value
    c.to_ascii_lowercase-wanted.ensures.value c.if-byte-wanted.true in
    compared_error str_to_ascii_lowercase folded_form _ _ _ c.min-n.ensures (fronts_differ _ _ c.loop-i.i _ c.loop-i-test.true other)

pub loop-i-preserved : goal.loop-i-preserved
loop-i-preserved c =
    let same = folded_same _ _ c.loop-i.i _ _ _ c.min-n.ensures c.loop-i-test.true c.to_ascii_lowercase-byte.ensures.value
    c.to_ascii_lowercase-wanted.ensures.value c.if-byte-wanted.false in
    fronts_more _ _ c.loop-i.i _ (folded_min _ _ _ c.min-n.ensures) c.loop-i-test.true c.loop-i.invariant same

pub returns-then-bytes-tag : goal.returns-then-bytes-tag
returns-then-bytes-tag c =
    compared_ok str_to_ascii_lowercase folded_form _ _ _ c.min-n.ensures
    (fronts_are _ _ c.loop-i.i _ c.loop-i.auto.i-end c.loop-i-test.false c.loop-i.invariant) c.if-bytes-tag.true

pub returns-else-bytes-tag : goal.returns-else-bytes-tag
returns-else-bytes-tag c =
    compared_incomplete str_to_ascii_lowercase folded_form _ _ _ c.min-n.ensures
    (fronts_are _ _ c.loop-i.i _ c.loop-i.auto.i-end c.loop-i-test.false c.loop-i.invariant) c.if-bytes-tag.false
