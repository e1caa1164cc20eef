use Rattle.nom_run.proofs.Built.{told, pending}
use Rattle.nom_run.proofs.Piecewise.{puts_same}
use Rattle.nom_json_run.proofs.lines.list.Goals as goal

pub returns-in-Ok-write_all : goal.returns-in-Ok-write_all
returns-in-Ok-write_all g c = told _ c.in-Ok.ensures (puts_same c.as_bytes.ensures.value c.in-Ok-write_all.ensures.puts)

pub returns : goal.returns
returns g c = pending _ c.in-Ok.ensures (puts_same c.as_bytes.ensures.value c.in-Err-write_all.ensures.puts)
