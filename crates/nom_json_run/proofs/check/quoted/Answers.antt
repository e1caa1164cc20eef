use Rattle.std.proofs.Common.{◌+◌, ◌==◌, ◌≤◌, true, arith}
use Rattle.nom_json_run.specs.Json.{JsonCharacters, JsonString, Spaced}
use Rattle.nom_json_run.specs.Scans.{EndsNowhere}
use Rattle.nom_json_run.proofs.Alike.{ends_map, fails_map, first_there, spaced}
use Rattle.nom_json_run.proofs.Values.{string_same}
use Rattle.nom_json_run.proofs.check.quoted.Goals as goal

pub returns-in-Ok-clause-scans : goal.returns-in-Ok-clause-scans
returns-in-Ok-clause-scans c =
    let bytes = c.args.bytes.now in
    let at = c.args.at in
    let next : at ≤ at + 1 = omega arith in
    ends_map bytes (Spaced JsonCharacters) JsonString at (at + 1) c.spaces.result next
    (λ bs s. string_same bs at (first_there (λ b. b == 34) bytes bs at (at + 1) true next s c.requires))
    (spaced bytes JsonCharacters (at + 1) c.in-Ok.stop c.spaces.result c.in-Ok.ensures.scans c.spaces.ensures.begins c.spaces.ensures.within
    c.spaces.ensures.follows)

pub returns-in-Err-clause-scans : goal.returns-in-Err-clause-scans
returns-in-Err-clause-scans c =
    let bytes = c.args.bytes.now in
    let at = c.args.at in
    let next : at ≤ at + 1 = omega arith in
    fails_map bytes (λ i. EndsNowhere (JsonCharacters i)) (λ i. EndsNowhere (JsonString i)) at (at + 1) c.in-Err.fault next
    (λ bs s none r t.
    let f = (string_same bs at (first_there (λ b. b == 34) bytes bs at (at + 1) true next s c.requires) r).0 t in
    none f.0 f.1) c.in-Err.ensures.scans
