use Rattle.std.proofs.Common.{append-nil, refl}
use Rattle.nom_run.proofs.Built.{told, pending}
use Rattle.nom_run.proofs.Piecewise.{puts_both, puts_from}
use Rattle.nom_settings_run.proofs.report.write_sections.Goals as goal

pub put_each-requires : goal.put_each-requires
put_each-requires g c = (rw c.in-Ok.is at c.requires).0

pub returns-in-Err-put_each : goal.returns-in-Err-put_each
returns-in-Err-put_each g c = pending 0 (refl, refl) (puts_from (rw c.in-Ok.is at c.requires).1 c.in-Err-put_each.ensures.puts)

pub returns-in-Ok-flush : goal.returns-in-Ok-flush
returns-in-Ok-flush g c =
    told 0 (refl, refl) (puts_both (append-nil _) (puts_from (rw c.in-Ok.is at c.requires).1 c.in-Ok-put_each.ensures.puts) c.in-Ok-flush.ensures.puts)

pub returns : goal.returns
returns g c =
    pending 0 (refl, refl) (puts_both (append-nil _) (puts_from (rw c.in-Ok.is at c.requires).1 c.in-Ok-put_each.ensures.puts) c.in-Err-flush.ensures.puts)
