use Rattle.std.proofs.Common.{inl, subst}
use Rattle.nom_messages_run.specs.Asked.{WritesMessages}
use Rattle.nom_messages_run.proofs.program.write_file.Goals as goal

pub returns-in-Ok : goal.returns-in-Ok
returns-in-Ok g c =
    let file = c.in-Ok.ensures.file in
    inl (
      file.0,
      file.1,
      c.in-Ok.ensures.none,
      subst (λ r. WritesMessages g.R.Read.remaining g.W.Write.contents g.E.ByteWriter.account r c.args.writer
          c.args.faults.now c.write_messages.new.faults c.write_messages.result g.row.A.Denot) file.2 c.write_messages.ensures,
    )
