use Rattle.std.proofs.Common.{map, string_bytes}
use Rattle.nom_run.proofs.Ended.{told_end}
use Rattle.nom_run.proofs.program.status_for.Goals as goal

pub returns-in-Err : goal.returns-in-Err
returns-in-Err g c =
    told_end g.F.Folder.is_file g.F.File.Source.account (map string_bytes c.args.words.now) g.F.Folder.missed
    c.args.folder.now c.answer.new.folder (g.R.Reporting.is_report c.args.report.now) g.W.ByteWriter.account c.args.sink.now c.answer.new.sink
    c.tell_fault.new.sink _ c.tell_fault.ensures.status c.in-Err.error c.in-Err.ensures.error c.tell_fault.ensures.wrote c.tell_fault.ensures.after_write
