use Rattle.std.proofs.Common.{refl}
use Rattle.nom_multi.proofs.ValueShown.{cut_lacks, cut_refused, cut_accepted}
use Rattle.nom_multi.proofs.cut.cut.Goals as goal

pub returns-then-whole-length : goal.returns-then-whole-length
returns-then-whole-length g c =
    cut_lacks _ g.E.ParseError.errors c.args.length _ c.args.input _ _ _ c.input_len-whole.ensures c.if-whole-length.true refl c.new.ensures.some

pub returns-then-is_place : goal.returns-then-is_place
returns-then-is_place g c = cut_accepted _ g.E.ParseError.errors c.args.length _ c.args.input c.if-is_place.ensures _ _ c.take_from.ensures c.front.ensures

pub returns : goal.returns
returns g c = cut_refused _ g.E.ParseError.errors c.args.length _ c.args.input _ _ c.input_len-whole.ensures c.if-whole-length.false
    c.if-is_place.ensures c.refusal.ensures
