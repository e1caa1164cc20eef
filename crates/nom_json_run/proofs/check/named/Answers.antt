use Rattle.std.proofs.Common.{◌≤◌, drop, arith}
use Rattle.nom_json_run.specs.Json.{JsonValue, Leaves, Spaced, after_word}
use Rattle.nom_json_run.specs.Scans.{EndsNowhere}
use Rattle.nom_json_run.proofs.Alike.{ends_map, spaced, word_missing, word_there}
use Rattle.nom_json_run.proofs.Values.{named_some, named_within, word_same}
use Rattle.nom_json_run.proofs.check.named.Goals as goal

pub returns-in-Ok-clause-some : goal.returns-in-Ok-clause-some
returns-in-Ok-clause-some c = omega (arith, named_some c.args.wanted.now _ c.requires, c.in-Ok.ensures.length, c.spaces.ensures.begins)

pub returns-in-Ok-clause-scans : goal.returns-in-Ok-clause-scans
returns-in-Ok-clause-scans c =
    let bytes = c.args.bytes.now in
    let at = c.args.at in
    let word = c.args.wanted.now in
    let here : at ≤ at = omega arith in
    ends_map bytes (Spaced (Leaves (after_word word))) JsonValue at at c.spaces.result here
    (λ bs s. word_same word (drop at bs) (word_there bytes bs word at at here s c.requires))
    (spaced bytes (Leaves (after_word word)) at c.in-Ok.stop c.spaces.result c.in-Ok.ensures.scans c.spaces.ensures.begins c.spaces.ensures.within
    c.spaces.ensures.follows)

pub returns-in-Err-clause-scans : goal.returns-in-Err-clause-scans
returns-in-Err-clause-scans c =
    let bytes = c.args.bytes.now in
    let at = c.args.at in
    let word = c.args.wanted in
    let here : at ≤ at = omega arith in
    let m = c.in-Err.ensures.missing in
    word_missing bytes (λ i. EndsNowhere (JsonValue i)) at word c.in-Err.fault (named_within word.now bytes at c.requires) m.0 m.1 c.requires m.2
    (λ bs s none r v.
    let f = (word_same word.now (drop at bs) (word_there bytes bs word.now at at here s c.requires) r).0 v in
    cc (none, f.1))
