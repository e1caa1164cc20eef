use Rattle.nom_json_run.proofs.Wanted.{joins_of}
use Rattle.nom_json_run.proofs.report.either.Goals as goal

pub returns : goal.returns
returns c = joins_of c.args.first c.args.second c.in_ok-first.first c.in_ok-second.second c.in_ok-first.was c.in_ok-second.was c.or.result c.or.ensures
