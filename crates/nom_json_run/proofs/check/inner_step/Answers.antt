use Rattle.std.proofs.Common.{◌≡◌, ◌==◌, ◌∷◌, ◌≤◌, true, false, drop, reverse, arith, subst}
use Rattle.nom_json_run.specs.Json.{begins, closing}
use Rattle.nom_json_run.specs.Walk.{ClosesAll}
use Rattle.nom_json_run.proofs.Alike.{byte_passed, first_there, for_all}
use Rattle.nom_json_run.proofs.Walks.{closing_on, comma_on, item_goes, item_stops, neither}
use Rattle.nom_json_run.proofs.check.inner_step.Goals as goal

pub returns-then-byte_is-clause-steps : goal.returns-then-byte_is-clause-steps
returns-then-byte_is-clause-steps g c =
    let bytes = c.args.bytes.now in
    let o = c.args.bracket in
    let inner = reverse c.args.open.now.items in
    let at = c.args.at in
    let stop = c.spaces.result in
    let f : begins c.closing_byte.result (drop at bytes) ≡ true = cc in
    let e = subst (λ b. begins b (drop at bytes) ≡ true) c.closing_byte.ensures f in (
      omega (arith, c.spaces.ensures.begins),
      c.spaces.ensures.within,
      λ bs s.
          let p = byte_passed (closing o) bytes at stop c.spaces.ensures.begins e c.spaces.ensures.follows bs s in
          closing_on o inner (drop at bs) (drop stop bs) p.0 p.1,
    )

pub returns-then-not-byte_is-clause-steps : goal.returns-then-not-byte_is-clause-steps
returns-then-not-byte_is-clause-steps g c =
    let bytes = c.args.bytes.now in
    let o = c.args.bracket in
    let inner = reverse c.args.open.now.items in
    let at = c.args.at in
    let f : begins c.closing_byte.result (drop at bytes) ≡ false = cc in
    let no = subst (λ b. begins b (drop at bytes) ≡ false) c.closing_byte.ensures f in
    let comma : begins 44 (drop at bytes) ≡ false = cc in
    let le : at ≤ at = omega arith in
    for_all bytes (λ i. ClosesAll (o ∷ inner) i → ⊥) at _ (record {
      begins = le;
      within = c.requires;
      part = (comma, no);
      fails = λ bs s. neither o inner (drop at bs) (first_there (λ b. b == closing o) bytes bs at at false le s no)
          (first_there (λ b. b == 44) bytes bs at at false le s comma);
    })

pub returns-in-Ok-clause-steps : goal.returns-in-Ok-clause-steps
returns-in-Ok-clause-steps g c =
    let bytes = c.args.bytes.now in
    let o = c.args.bracket in
    let inner = reverse c.args.open.now.items in
    let at = c.args.at in
    let item = c.spaces-item in
    let e : begins 44 (drop at bytes) ≡ true = cc in
    item_goes bytes (ClosesAll (o ∷ inner)) o inner _ at item.result c.in-Ok.stop (omega (arith, item.ensures.begins)) c.in_ok-push.ensures.pushed
    (λ bs s.
    let p = byte_passed 44 bytes at item.result item.ensures.begins e item.ensures.follows bs s in
    comma_on o inner (drop at bs) (drop item.result bs) p.0 p.1) c.in-Ok.ensures.ok

pub returns-in-Err-clause-steps : goal.returns-in-Err-clause-steps
returns-in-Err-clause-steps g c =
    let bytes = c.args.bytes.now in
    let o = c.args.bracket in
    let inner = reverse c.args.open.now.items in
    let at = c.args.at in
    let item = c.spaces-item in
    let e : begins 44 (drop at bytes) ≡ true = cc in
    item_stops bytes (ClosesAll (o ∷ inner)) o inner at item.result c.in-Err.fault (omega (arith, item.ensures.begins))
    (λ bs s.
    let p = byte_passed 44 bytes at item.result item.ensures.begins e item.ensures.follows bs s in
    comma_on o inner (drop at bs) (drop item.result bs) p.0 p.1) c.in-Err.ensures.err
