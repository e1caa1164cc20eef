use Rattle.nom_json_run.proofs.Wanted.{char_wants}
use Rattle.nom_json_run.proofs.report.character.Goals as goal

pub returns : goal.returns
returns c = char_wants c.args.place c.args.wanted c.from_char.result c.from_char.ensures
