use Rattle.std.proofs.Common.{[], append-nil, refl}
use Rattle.nom_run.proofs.Piecewise.{puts_both, puts_first}
use Rattle.nom_run.proofs.pieces.put.Goals as goal

pub returns-in-Err-clause-puts : goal.returns-in-Err-clause-puts
returns-in-Err-clause-puts g c = puts_first c.args.bytes.now refl c.in-Err.ensures.puts

pub returns-in-Err-write_all-clause-puts : goal.returns-in-Err-write_all-clause-puts
returns-in-Err-write_all-clause-puts g c =
    puts_first [] (append-nil c.args.bytes.now) (puts_both refl c.in-Ok.ensures.puts c.in-Err-write_all.ensures.puts)
