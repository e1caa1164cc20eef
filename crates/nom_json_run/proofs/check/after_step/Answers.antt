use Rattle.std.proofs.Common.{◌<◌, drop, arith, length, length-drop, reverse, subst}
use Rattle.nom_json_run.specs.Walk.{ClosesAll}
use Rattle.nom_json_run.proofs.Alike.{for_all, longer}
use Rattle.nom_json_run.proofs.Walks.{not_end}
use Rattle.nom_json_run.proofs.check.after_step.Goals as goal

pub returns-then-at-bytes : goal.returns-then-at-bytes
returns-then-at-bytes g c =
    let bytes = c.args.bytes.now in
    let at = c.args.at in
    let more : at < length bytes = omega arith in
    for_all bytes (λ i. ClosesAll (reverse c.args.open.now.items) i → ⊥) at _ (record {
      begins = omega arith;
      within = omega arith;
      part = omega (arith, more, length-drop at bytes);
      fails = λ bs s h. not_end bs at (longer bytes bs at more s) (subst (λ xs. ClosesAll xs (drop at bs)) c.in-None.ensures.0 h);
    })
