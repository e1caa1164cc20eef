use Rattle.std.proofs.Common.{arith, ◌/◌, ◌∙◌, ap, sym, subst, length, vec_capacity}
use Rattle.std.specs.Prelude.{IsUtf8}
use Rattle.nom_sink.proofs.Lists.{undone}
use Rattle.nom_sink.proofs.Texts.{no_room, none_added, one_added}
use Rattle.nom_sink.proofs.text.add_chars.Goals as goal

pub loop-item-init : goal.loop-item-init
loop-item-init g c = record { added = none_added c.args.bytes.now.items c.args.items.now c.requires; room = omega arith }

pub loop-item-preserved : goal.loop-item-preserved
loop-item-preserved g c = record {
  added = one_added _ _ _ _ c.as_bytes.result.now _ c.item-item.result c.loop-item.invariant.added c.as_bytes.ensures.utf8
      (c.as_bytes.ensures.value ∙ c.encode_utf8-form.ensures.value) c.loop-item-test.true c.item-item.is c.in-Ok.ensures.items;
  room = omega (arith, c.loop-item.invariant.room, c.in-Ok.ensures.capacity);
}

pub returns-in-Err-clause-valid : goal.returns-in-Err-clause-valid
returns-in-Err-clause-valid g c =
    let a = c.loop-item.invariant.added in
    subst IsUtf8 (sym (undone c.len-start.result _ _ _ _ _ (omega (arith, c.len-start.ensures, c.args.bytes.now.ok)) a.whole c.in-Err.ensures.items
    c.truncate.ensures.items)) c.requires

pub returns-in-Err-clause-full : goal.returns-in-Err-clause-full
returns-in-Err-clause-full g c = (
  vec_capacity c.loop-item.bytes / 4,
  omega (arith, c.loop-item.invariant.room),
  no_room _ _ _ (vec_capacity c.loop-item.bytes) (length c.as_bytes.result.now) _ c.loop-item.invariant.added c.loop-item-test.true
      (omega (arith, ap length c.as_bytes.ensures.value, c.encode_utf8-form.ensures.upper_bound))
      (omega (arith, c.in-Err.ensures.full, c.loop-item.bytes.ok)),
)
