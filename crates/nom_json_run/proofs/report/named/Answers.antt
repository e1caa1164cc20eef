use Rattle.nom_error.specs.declared.kind.ErrorKind.TheVariants as Kind
use Rattle.nom_report.specs.Wanted.{WantedKind}
use Rattle.nom_json_run.proofs.Wanted.{named_wants}
use Rattle.nom_json_run.proofs.report.named.Goals as goal

pub returns : goal.returns
returns c =
    named_wants c.args.place c.args.name.now (WantedKind Kind.Fail) c.in_ok-error.error c.in_ok-error.ensures c.add_context.result c.add_context.ensures
