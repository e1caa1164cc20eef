use Rattle.nom_run.proofs.Ended.{told_run}
use Rattle.nom_run.specs.Reporting.ToldRun.{ReportRun}
use Rattle.nom_run.proofs.program.status_on.Goals as goal

pub returns-in-Ok : goal.returns-in-Ok
returns-in-Ok g c = ReportRun c.in-Ok.ensures.status

pub returns-in-Err : goal.returns-in-Err
returns-in-Err g c =
    told_run (g.R.Reporting.is_report c.args.report.now) (g.S.Source.account c.args.source.now) (g.S.Source.account c.run.new.source) c.args.cuts.now
    g.W.ByteWriter.account c.args.sink.now c.run.new.sink c.tell_fault.new.sink _ c.tell_fault.ensures.status _ c.in-Err.error c.in-Err.ensures.error
    c.tell_fault.ensures.wrote c.tell_fault.ensures.after_write
