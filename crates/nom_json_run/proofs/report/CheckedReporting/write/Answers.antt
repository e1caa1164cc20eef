use Rattle.nom_run.proofs.Built.{built_is, tells_other}
use Rattle.nom_json_run.specs.Report.{IsNamedReport}
use Rattle.nom_json_run.proofs.report.CheckedReporting.write.Goals as goal

pub returns : goal.returns
returns g c =
    tells_other (built_is (IsNamedReport c.args.self.now.name.now c.args.bytes.now) c.text_of.result c.text_of.ensures) c.write_built.ensures
