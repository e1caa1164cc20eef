use Rattle.std.proofs.Common.{Ok, Err, Some, drop, refl}
use Rattle.nom_json_run.specs.Json.{Leaves, after_spaces}
use Rattle.nom_json_run.proofs.Decisions.{decides_finds}
use Rattle.nom_json_run.proofs.Blamed.{spaces_told}
use Rattle.nom_json_run.proofs.Grammars.{spaces_read}
use Rattle.nom_json_run.proofs.Scanned.{placed, scans}
use Rattle.nom_json_run.proofs.Wanted.{all_after}
use Rattle.nom_json_run.proofs.scan.spaces.Goals as goal

pub place-requires : goal.place-requires
place-requires c = placed spaces_read c.args.bytes.now c.args.start _ c.spaces_of.result (all_after c.args.bytes.now c.args.start) c.spaces_of.ensures

pub unreachable-requires : goal.unreachable-requires
unreachable-requires c =
    let f = (scans (Leaves (λ bs. Some (after_spaces bs))) c.args.bytes.now c.args.start c.requires spaces_read spaces_told (λ t xs n h. decides_finds h) _
    c.spaces_of.result (all_after c.args.bytes.now c.args.start) c.spaces_of.ensures (Err c.in-Err.field-0) c.in-Err.ensures).0 in
    f.fails c.args.bytes.now refl _ refl

pub returns-clause-follows : goal.returns-clause-follows
returns-clause-follows c =
    let e = (scans (Leaves (λ bs. Some (after_spaces bs))) c.args.bytes.now c.args.start c.requires spaces_read spaces_told (λ t xs n h. decides_finds h) _
    c.spaces_of.result (all_after c.args.bytes.now c.args.start) c.spaces_of.ensures (Ok c.in-Ok.stop) c.in-Ok.ensures).0 in
    λ bs b. cc ((e.ends bs b (drop c.in-Ok.stop bs)).1 refl)

pub returns-clause-begins : goal.returns-clause-begins
returns-clause-begins c = (scans (Leaves (λ bs. Some (after_spaces bs))) c.args.bytes.now c.args.start c.requires spaces_read spaces_told
    (λ t xs n h. decides_finds h) _ c.spaces_of.result (all_after c.args.bytes.now c.args.start) c.spaces_of.ensures (Ok c.in-Ok.stop) c.in-Ok.ensures).0.begins
