use Rattle.std.proofs.Common.{◌≡◌, ◌≤◌, true, false, drop, reverse, arith, subst}
use Rattle.nom_json_run.specs.Json.{JsonValue, begins, closing, opening}
use Rattle.nom_json_run.specs.Walk.{ClosesAfter}
use Rattle.nom_json_run.proofs.Alike.{before, both, byte_passed}
use Rattle.nom_json_run.proofs.Walks.{closed_at_once, item_goes, item_opened, item_stops, opened}
use Rattle.nom_json_run.proofs.check.open_step.Goals as goal

pub returns-then-byte_is : goal.returns-then-byte_is
returns-then-byte_is g c =
    let bytes = c.args.bytes.now in
    let o = c.args.bracket in
    let inner = reverse c.args.open.now.items in
    let at = c.args.at in
    let inside = c.spaces-inside.result in
    let stop = c.spaces.result in
    let f : begins c.closing_byte.result (drop inside bytes) ≡ true = cc in
    let e = subst (λ b. begins b (drop inside bytes) ≡ true) c.closing_byte.ensures f in
    let le : inside ≤ stop = omega (arith, c.spaces.ensures.begins) in (
      omega (arith, c.spaces-inside.ensures.begins, c.spaces.ensures.begins),
      c.spaces.ensures.within,
      λ bs s.
          let p = byte_passed (opening o) bytes at inside c.spaces-inside.ensures.begins c.requires c.spaces-inside.ensures.follows bs
          (before bytes bs inside stop le s) in
          let q = byte_passed (closing o) bytes inside stop c.spaces.ensures.begins e c.spaces.ensures.follows bs s in
          both (opened o inner (drop at bs) (drop inside bs) p.0 p.1) (closed_at_once o inner (drop inside bs) (drop stop bs) q.0 q.1),
    )

pub returns-in-Ok : goal.returns-in-Ok
returns-in-Ok g c =
    let bytes = c.args.bytes.now in
    let o = c.args.bracket in
    let inner = reverse c.args.open.now.items in
    let at = c.args.at in
    let item = c.spaces-inside in
    let f : begins c.closing_byte.result (drop item.result bytes) ≡ false = cc in
    let none = subst (λ b. begins b (drop item.result bytes) ≡ false) c.closing_byte.ensures f in
    item_goes bytes (λ i. ClosesAfter (JsonValue i) inner) o inner _ at item.result c.in-Ok.stop (omega (arith, item.ensures.begins))
    c.in_ok-push.ensures.pushed (item_opened o inner bytes at item.result item.ensures.begins c.requires none item.ensures.follows) c.in-Ok.ensures.ok

pub returns-in-Err : goal.returns-in-Err
returns-in-Err g c =
    let bytes = c.args.bytes.now in
    let o = c.args.bracket in
    let inner = reverse c.args.open.now.items in
    let at = c.args.at in
    let item = c.spaces-inside in
    let f : begins c.closing_byte.result (drop item.result bytes) ≡ false = cc in
    let none = subst (λ b. begins b (drop item.result bytes) ≡ false) c.closing_byte.ensures f in
    item_stops bytes (λ i. ClosesAfter (JsonValue i) inner) o inner at item.result c.in-Err.fault (omega (arith, item.ensures.begins))
    (item_opened o inner bytes at item.result item.ensures.begins c.requires none item.ensures.follows) c.in-Err.ensures.err
