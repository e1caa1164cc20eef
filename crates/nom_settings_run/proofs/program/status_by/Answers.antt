use Rattle.std.proofs.Common.{map, string_bytes, subst}
use Rattle.nom_settings_run.specs.Asked.{Answers}
use Rattle.nom_settings_run.proofs.program.status_by.Goals as goal

pub returns-in-Ok : goal.returns-in-Ok
returns-in-Ok g c = rw c.in-Ok.is (subst (λ ws. Answers g.F.Folder.is_file g.F.File.Source.account g.F.Folder.missed c.args.folder.now
    c.answer.new.folder (g.W.ByteWriter.account c.args.sink.now) (g.W.ByteWriter.account c.answer.new.sink) c.answer.result (map string_bytes ws))
    c.deref.ensures.value c.answer.ensures)
