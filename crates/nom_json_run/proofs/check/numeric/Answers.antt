use Rattle.std.proofs.Common.{◌≤◌, false, drop, arith}
use Rattle.nom_json_run.specs.Json.{JsonValue, Leaves, Spaced, after_number}
use Rattle.nom_json_run.specs.Scans.{EndsNowhere}
use Rattle.nom_json_run.specs.Parts.{is_mark}
use Rattle.nom_json_run.proofs.Alike.{ends_map, fails_map, first_there, same_place, spaced}
use Rattle.nom_json_run.proofs.Values.{number_same}
use Rattle.nom_json_run.proofs.Numbers.{value_part}
use Rattle.nom_json_run.proofs.check.numeric.Goals as goal

pub returns-in-Ok-clause-scans : goal.returns-in-Ok-clause-scans
returns-in-Ok-clause-scans c =
    let bytes = c.args.bytes.now in
    let at = c.args.at in
    let here : at ≤ at = omega arith in
    ends_map bytes (Spaced (Leaves after_number)) JsonValue at at c.spaces.result here
    (λ bs s. number_same (drop at bs) (first_there is_mark bytes bs at at false here s c.requires.other))
    (spaced bytes (Leaves after_number) at c.in-Ok.stop c.spaces.result c.in-Ok.ensures.scans c.spaces.ensures.begins c.spaces.ensures.within
    c.spaces.ensures.follows)

pub returns-in-Err-clause-scans : goal.returns-in-Err-clause-scans
returns-in-Err-clause-scans c =
    let bytes = c.args.bytes.now in
    let at = c.args.at in
    let here : at ≤ at = omega arith in
    let failed = c.in-Err.ensures.scans in
    let other = c.value_fault.ensures in
    let part = value_part bytes at c.in-Err.fault c.value_fault.result other.at c.requires.other failed other.missing in
    same_place bytes (λ i. EndsNowhere (JsonValue i)) at c.in-Err.fault c.value_fault.result other.at part (
    fails_map bytes (λ i. EndsNowhere (Leaves after_number i)) (λ i. EndsNowhere (JsonValue i)) at at c.in-Err.fault here
    (λ bs s none r v.
    let f = (number_same (drop at bs) (first_there is_mark bytes bs at at false here s c.requires.other) r).0 v in
    none f.0 f.1) failed)
