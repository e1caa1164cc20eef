use Rattle.std.proofs.Common.{ap, subst, sym, ◌∙◌}
use Rattle.nom_run.proofs.Built.{built_is, tells_lack, tells_other}
use Rattle.nom_settings_run.specs.Report.{IsSettingsReport, IsStopLine, sections_text}
use Rattle.nom_settings_run.proofs.report.write_answer.Goals as goal

pub returns-in-Ok : goal.returns-in-Ok
returns-in-Ok g c = tells_lack (λ text status h. subst (λ r. IsSettingsReport r text status) (sym c.in-Ok.is)
    (h.0 ∙ ap (λ os. sections_text os) c.deref.ensures.value, h.1)) (λ l. l.0) c.write_sections.ensures

pub returns-in-Err : goal.returns-in-Err
returns-in-Err g c = tells_other (λ text status b. subst (λ r. IsSettingsReport r text status) (sym c.in-Err.is)
    (built_is (IsStopLine c.in-Err.stop) c.tell_stop.result c.tell_stop.ensures text status b)) c.write_built.ensures
