use Rattle.std.proofs.Common.{◌≡◌, ◌==◌, ◌≤◌, true, false, drop, arith}
use Rattle.nom_json_run.specs.Json.{JsonItem, JsonString, begins}
use Rattle.nom_json_run.specs.Scans.{EndsNowhere}
use Rattle.nom_json_run.specs.declared.bracket.Bracket.TheVariants.{Object}
use Rattle.nom_json_run.proofs.Alike.{before, byte_passed, fails_map, first_there}
use Rattle.nom_json_run.proofs.Values.{member_no_colon, member_no_name, member_same, string_no}
use Rattle.nom_json_run.proofs.check.member_name.Goals as goal

pub returns-then-not-byte_is-clause-err : goal.returns-then-not-byte_is-clause-err
returns-then-not-byte_is-clause-err c =
    let bytes = c.args.bytes.now in
    let at = c.args.at in
    let e : begins 34 (drop at bytes) ≡ false = cc in
    let le : at ≤ at = omega arith in
    record {
      begins = le;
      within = c.requires;
      part = e;
      fails = λ bs s. member_no_name (drop at bs) (string_no (drop at bs) (first_there (λ b. b == 34) bytes bs at at false le s e));
    }

pub returns-then-byte_is-clause-ok : goal.returns-then-byte_is-clause-ok
returns-then-byte_is-clause-ok c =
    let bytes = c.args.bytes.now in
    let at = c.args.at in
    let colon = c.in-Ok.colon in
    let found = c.in-Ok.ensures.scans in
    let stop = c.spaces.result in
    let e : begins 58 (drop colon bytes) ≡ true = cc in
    let le : colon ≤ stop = omega (arith, c.spaces.ensures.begins) in
    record {
      begins = omega (arith, found.begins, c.spaces.ensures.begins);
      within = c.spaces.ensures.within;
      same = λ bs s.
          let p = byte_passed 58 bytes colon stop c.spaces.ensures.begins e c.spaces.ensures.follows bs s in
          member_same (drop at bs) (drop colon bs) (drop stop bs) (found.ends bs (before bytes bs colon stop le s)) p.0 p.1;
    }

pub returns-else-byte_is-clause-err : goal.returns-else-byte_is-clause-err
returns-else-byte_is-clause-err c =
    let bytes = c.args.bytes.now in
    let at = c.args.at in
    let colon = c.in-Ok.colon in
    let found = c.in-Ok.ensures.scans in
    let e : begins 58 (drop colon bytes) ≡ false = cc in
    let le : colon ≤ colon = omega arith in
    record {
      begins = found.begins;
      within = found.within;
      part = e;
      fails = λ bs s. member_no_colon (drop at bs) (drop colon bs) (found.ends bs s) (first_there (λ b. b == 58) bytes bs colon colon false le s e);
    }

pub returns-in-Err-clause-err : goal.returns-in-Err-clause-err
returns-in-Err-clause-err c =
    let at = c.args.at in
    let le : at ≤ at = omega arith in
    fails_map c.args.bytes.now (λ i. EndsNowhere (JsonString i)) (λ i. EndsNowhere (JsonItem Object i)) at at c.in-Err.fault le
    (λ bs s h. member_no_name (drop at bs) h) c.in-Err.ensures.scans
