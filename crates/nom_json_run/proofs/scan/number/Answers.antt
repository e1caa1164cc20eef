use Rattle.std.proofs.Common.{arith}
use Rattle.nom_json_run.specs.Json.{Leaves, after_number}
use Rattle.nom_json_run.proofs.Decisions.{decides_finds}
use Rattle.nom_json_run.proofs.Blamed.{number_told}
use Rattle.nom_json_run.proofs.Grammars.{number_reads}
use Rattle.nom_json_run.proofs.Scanned.{placed, scans}
use Rattle.nom_json_run.proofs.Wanted.{all_after}
use Rattle.nom_json_run.proofs.scan.number.Goals as goal

pub place-requires : goal.place-requires
place-requires c = placed number_reads c.args.bytes.now c.args.start _ c.number_of.result (all_after c.args.bytes.now c.args.start) c.number_of.ensures

pub returns-clause-some : goal.returns-clause-some
returns-clause-some c = (scans (Leaves after_number) c.args.bytes.now c.args.start c.requires number_reads number_told (λ t xs n h. decides_finds h) _
    c.number_of.result (all_after c.args.bytes.now c.args.start) c.number_of.ensures c.place.result c.place.ensures).1 (omega arith)

pub returns-clause-scans : goal.returns-clause-scans
returns-clause-scans c = (scans (Leaves after_number) c.args.bytes.now c.args.start c.requires number_reads number_told (λ t xs n h. decides_finds h) _
    c.number_of.result (all_after c.args.bytes.now c.args.start) c.number_of.ensures c.place.result c.place.ensures).0
