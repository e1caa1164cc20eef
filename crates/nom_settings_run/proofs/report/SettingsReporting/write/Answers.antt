use Rattle.std.proofs.Common.{◌∙◌, ap, take}
use Rattle.nom_run.proofs.Built.{built_is, tells_other}
use Rattle.nom_settings_run.specs.Report.{IsBytesReport}
use Rattle.nom_settings_run.proofs.Reported.{report_of_bytes, report_of_text}
use Rattle.nom_settings_run.proofs.report.SettingsReporting.write.Goals as goal

pub returns-in-Ok : goal.returns-in-Ok
returns-in-Ok g c =
    let at = c.new-whole.ensures in
    tells_other (λ text status t. report_of_text c.args.bytes.now c.args._cuts.now c.new-whole.result c.settings.result text status
    c.in-Ok.ensures.cases.1 (ap (λ s. s.now) at.0 ∙ c.in-Ok.ensures.cases.0) at.1 at.2 at.3 c.settings.ensures t) c.write_answer.ensures

pub returns-in-Err : goal.returns-in-Err
returns-in-Err g c =
    tells_other (λ text status b. report_of_bytes c.args.bytes.now c.args._cuts.now text status c.valid_up_to.result _ c.valid_up_to.ensures
    c.in-Err.ensures.cases.1 (built_is (IsBytesReport (take c.valid_up_to.result c.args.bytes.now)) c.tell_bytes.result c.tell_bytes.ensures text status b))
    c.write_built.ensures
