use Rattle.nom_sink.proofs.Texts.{place_end, place_is}
use Rattle.std.proofs.Common.{◌<◌, length, ap, sym, subst, ◌∙◌}
use Rattle.std.specs.Prelude.{chars}
use Rattle.nom_sink.proofs.text.place_after.Goals as goal

pub returns-in-Ok-slice_index : goal.returns-in-Ok-slice_index
returns-in-Ok-slice_index c =
    let p = c.in-Ok-slice_index.ensures in
    place_is c.args.count c.in-Ok-slice_index.place (chars c.args.bytes.now) p.place.front p.place.rest
    (ap chars (sym c.in-Ok.ensures.cases.0) ∙ p.place.whole) p.count_is p.place.length_is

pub returns-in-Err-slice_index : goal.returns-in-Err-slice_index
returns-in-Err-slice_index c = place_end c.args.count c.args.bytes.now c.requires
    (subst (λ z. length (chars z) < c.args.count) c.in-Ok.ensures.cases.0 c.in-Err-slice_index.ensures.0)
