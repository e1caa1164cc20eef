use Rattle.std.proofs.Common.{arith, inl, string_bytes}
use Rattle.std.proofs.lemmas.List.{length-map}
use Rattle.nom_settings_run.proofs.program.answer.Goals as goal

pub returns : goal.returns
returns g c = inl (omega (arith, c.if-words-gt2.false, length-map c.args.words.now string_bytes), c.status_for.ensures)
