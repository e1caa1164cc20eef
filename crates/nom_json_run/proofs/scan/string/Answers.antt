use Rattle.std.proofs.Common.{arith}
use Rattle.nom_json_run.specs.Json.{JsonCharacters}
use Rattle.nom_json_run.proofs.Blamed.{string_told}
use Rattle.nom_json_run.proofs.Grammars.{string_reads}
use Rattle.nom_json_run.proofs.Scanned.{placed, scans}
use Rattle.nom_json_run.proofs.Wanted.{all_after}
use Rattle.nom_json_run.proofs.scan.string.Goals as goal

pub place-requires : goal.place-requires
place-requires c = placed string_reads c.args.bytes.now c.args.start _ c.string_of.result (all_after c.args.bytes.now c.args.start) c.string_of.ensures

pub returns-clause-some : goal.returns-clause-some
returns-clause-some c = (scans JsonCharacters c.args.bytes.now c.args.start c.requires string_reads string_told (λ t xs n h. h) _ c.string_of.result
    (all_after c.args.bytes.now c.args.start) c.string_of.ensures c.place.result c.place.ensures).1 (omega arith)

pub returns-clause-scans : goal.returns-clause-scans
returns-clause-scans c = (scans JsonCharacters c.args.bytes.now c.args.start c.requires string_reads string_told (λ t xs n h. h) _ c.string_of.result
    (all_after c.args.bytes.now c.args.start) c.string_of.ensures c.place.result c.place.ensures).0
