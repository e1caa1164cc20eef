use Rattle.std.proofs.Common.{Ok, Err, arith, refl}
use Rattle.nom_json_run.specs.Json.{Leaves, after_word}
use Rattle.nom_json_run.proofs.Decisions.{decides_finds}
use Rattle.nom_json_run.proofs.Grammars.{word_reads}
use Rattle.nom_json_run.proofs.Runs.{worded_within}
use Rattle.nom_json_run.proofs.Scanned.{found, placed, stopped}
use Rattle.nom_json_run.proofs.Wanted.{all_after}
use Rattle.nom_json_run.proofs.scan.word.Goals as goal

pub place-requires : goal.place-requires
place-requires c =
    placed (word_reads c.args.wanted.now) c.args.bytes.now c.args.start _ c.word_of.result (all_after c.args.bytes.now c.args.start) c.word_of.ensures

pub returns-in-Ok-clause-length : goal.returns-in-Ok-clause-length
returns-in-Ok-clause-length c =
    let s = stopped (word_reads c.args.wanted.now) c.args.bytes.now c.args.start (worded_within c.args.wanted.now) c.requires _ c.word_of.result
    (all_after c.args.bytes.now c.args.start) c.word_of.ensures (Ok c.in-Ok.stop) c.in-Ok.ensures in
    omega (arith, s.1, s.2)

pub returns-in-Ok-clause-scans : goal.returns-in-Ok-clause-scans
returns-in-Ok-clause-scans c =
    let s = stopped (word_reads c.args.wanted.now) c.args.bytes.now c.args.start (worded_within c.args.wanted.now) c.requires _ c.word_of.result
    (all_after c.args.bytes.now c.args.start) c.word_of.ensures (Ok c.in-Ok.stop) c.in-Ok.ensures in
    found (Leaves (after_word c.args.wanted.now)) c.args.bytes.now c.args.start c.requires s.0 c.in-Ok.stop s.2 (decides_finds s.3)

pub returns-in-Err-clause-missing : goal.returns-in-Err-clause-missing
returns-in-Err-clause-missing c =
    let s = stopped (word_reads c.args.wanted.now) c.args.bytes.now c.args.start (worded_within c.args.wanted.now) c.requires _ c.word_of.result
    (all_after c.args.bytes.now c.args.start) c.word_of.ensures (Err c.in-Err.field-0) c.in-Err.ensures in
    (refl, refl, s.2.0)
