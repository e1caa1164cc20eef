use Rattle.std.proofs.Common.{◌≡◌, ◌≤◌, ◌==◌, List, [], ◌∷◌, ℕ, true, false, drop, arith, refl}
use Rattle.nom_json_run.specs.Json.{JsonString, JsonValue, begins, first_is}
use Rattle.nom_json_run.specs.Parts.{is_mark}
use Rattle.nom_json_run.proofs.Alike.{first_there, scans_for_all, scans_map}
use Rattle.nom_json_run.proofs.Values.{text_same}
use Rattle.nom_json_run.proofs.check.scalar.Goals as goal

pub returns-then-byte_is-clause-scans : goal.returns-then-byte_is-clause-scans
returns-then-byte_is-clause-scans c =
    let bytes = c.args.bytes.now in
    let at = c.args.at in
    let e : begins 34 (drop at bytes) ≡ true = cc in
    let here : at ≤ at = omega arith in
    scans_for_all bytes JsonValue at c.quoted.result (scans_map bytes JsonString JsonValue at at c.quoted.result here
    (λ bs s. text_same (drop at bs) (first_there (λ b. b == 34) bytes bs at at true here s e)) c.quoted.ensures.scans)

unmarked : (i : List ℕ) → begins 91 i ≡ false → begins 123 i ≡ false → begins 34 i ≡ false → begins 116 i ≡ false → begins 102 i ≡ false →
    begins 110 i ≡ false → first_is is_mark i ≡ false
unmarked [] a o q t f n = refl
unmarked (b ∷ bs) a o q t f n = grind (arith, a, o, q, t, f, n)

pub numeric-requires-clause-other : goal.numeric-requires-clause-other
numeric-requires-clause-other c = unmarked (drop c.args.at c.args.bytes.now) (cc) (cc) (cc) (cc) (cc) (cc)
