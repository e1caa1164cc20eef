use Rattle.std.proofs.Common.{refl}
use Rattle.nom_internal.proofs.Shown.{err_from_residual}
use Rattle.example_json.proofs.Plain.{borrowed, never_stops, none_left, not_plain, owned, owned_stops}
use Rattle.example_json.proofs.Results.{taken}
use Rattle.example_json.proofs.strings.decoded.Goals as goal

pub returns-in_err-rest-clause-shown : goal.returns-in_err-rest-clause-shown
returns-in_err-rest-clause-shown g c = absurd (never_stops refl c.in_err-rest.ensures.shown)

pub returns-in_err-rest-clause-lent : goal.returns-in_err-rest-clause-lent
returns-in_err-rest-clause-lent g c = absurd (never_stops refl c.in_err-rest.ensures.shown)

pub returns-then-is_empty-clause-shown : goal.returns-then-is_empty-clause-shown
returns-then-is_empty-clause-shown g c =
    borrowed _ _ _ _ c.known.ensures c.known-then-is_empty.ensures (none_left _ _ c.is_empty.ensures c.if-is_empty.true)
    (taken refl c.in_ok-rest.ensures.shown)

pub returns-in_err-rest-2-clause-shown : goal.returns-in_err-rest-2-clause-shown
returns-in_err-rest-2-clause-shown g c = owned_stops _ _ _ _ _ refl (err_from_residual c.from_residual-in_err-rest-2.ensures) c.in_err-rest-2.ensures

pub returns-clause-shown : goal.returns-clause-shown
returns-clause-shown g c = owned _ _ _ _ c.in_ok-rest-2.ensures

pub returns-clause-lent : goal.returns-clause-lent
returns-clause-lent g c = λ all. absurd (not_plain (taken refl c.in_ok-rest.ensures.shown) _ c.is_empty.ensures c.if-is_empty.false all)
