use Rattle.std.proofs.Common.{inl, subst}
use Rattle.nom_json_run.specs.Asked.{ChecksLines}
use Rattle.nom_json_run.proofs.program.check_file.Goals as goal

pub returns-in-Ok : goal.returns-in-Ok
returns-in-Ok g c =
    let file = c.in-Ok.ensures.file in
    inl (
      file.0,
      file.1,
      c.in-Ok.ensures.none,
      subst (λ r. ChecksLines g.R.Read.remaining g.W.ByteWriter.account r c.args.sink.now c.check_lines.new.sink
          c.check_lines.result g.row.A.Denot) file.2 c.check_lines.ensures,
    )
