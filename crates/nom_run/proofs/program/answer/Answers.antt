use Rattle.std.proofs.Common.{sym, subst, map, string_bytes}
use Rattle.nom_run.specs.Asked.{Asks}
use Rattle.nom_run.proofs.Ended.{on_report, on_run}
use Rattle.nom_run.proofs.program.answer.Goals as goal

pub returns-clause-status : goal.returns-clause-status
returns-clause-status g c =
    let cuts = c.as_slice-cuts.result.now in
    let asks = subst (λ z. Asks (map string_bytes c.args.words.now) c.in-Ok.task.file.now z)
    (sym c.as_slice-cuts.ensures.value) c.in-Ok.ensures.task in
    on_report g.F.Folder.is_file g.F.File.Source.account (map string_bytes c.args.words.now) g.F.Folder.missed
    c.args.folder.now c.open.new.self (g.R.Reporting.is_report c.args.report.now) cuts asks.others.ordered c.in-Ok-open.source c.run.new.source
    (record { name = c.in-Ok.task.file.now; asks = asks; file = c.in-Ok-open.ensures.file; none = c.in-Ok-open.ensures.counts })
    _ _ c.run.result c.run.ensures.status

pub returns-clause-error : goal.returns-clause-error
returns-clause-error g c =
    let cuts = c.as_slice-cuts.result.now in
    let asks = subst (λ z. Asks (map string_bytes c.args.words.now) c.in-Ok.task.file.now z)
    (sym c.as_slice-cuts.ensures.value) c.in-Ok.ensures.task in
    on_run g.F.Folder.is_file g.F.File.Source.account (map string_bytes c.args.words.now) g.F.Folder.missed
    c.args.folder.now c.open.new.self (g.R.Reporting.is_report c.args.report.now) cuts asks.others.ordered c.in-Ok-open.source c.run.new.source
    (record { name = c.in-Ok.task.file.now; asks = asks; file = c.in-Ok-open.ensures.file; none = c.in-Ok-open.ensures.counts })
    _ _ _ _ c.run.result c.run.ensures.error
