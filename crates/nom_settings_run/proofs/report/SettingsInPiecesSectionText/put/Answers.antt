use Rattle.std.proofs.Common.{ap}
use Rattle.nom_run.proofs.Piecewise.{puts_same}
use Rattle.nom_settings_run.specs.Report.{section_text}
use Rattle.nom_settings_run.proofs.report.SettingsInPiecesSectionText.put.Goals as goal

pub returns-clause-puts : goal.returns-clause-puts
returns-clause-puts g c = puts_same (ap (λ os. section_text c.args.found.now.0 os) c.deref.ensures.value) c.put_each.ensures.puts
