use Rattle.nom_run.proofs.Built.{built_is, tells_other}
use Rattle.nom_records_run.proofs.report.RecordsReporting.write.Goals as goal

pub returns : goal.returns
returns g c = tells_other (built_is _ c.text_of.result c.text_of.ensures) c.write_built.ensures
