use Rattle.nom_run.proofs.Built.{is_built, told, pending}
use Rattle.nom_run.proofs.Piecewise.{puts_same}
use Rattle.nom_run.proofs.report.write_built.Goals as goal

pub returns-in-Ok-write_all : goal.returns-in-Ok-write_all
returns-in-Ok-write_all g c = told _ (is_built c.in-Ok.is) (puts_same c.as_bytes.ensures.value c.in-Ok-write_all.ensures.puts)

pub returns : goal.returns
returns g c = pending _ (is_built c.in-Ok.is) (puts_same c.as_bytes.ensures.value c.in-Err-write_all.ensures.puts)
