use Rattle.std.proofs.Common.{◌≡◌, ◌∙◌, None, length, arith, refl, subst, sym}
use Rattle.nom_sink.proofs.Lists.{undone}
use Rattle.nom_write_stream.specs.Outgoing.{FitsInput}
use Rattle.nom_write_stream.specs.Reasons.{why_unwritten}
use Rattle.nom_write_stream.proofs.Adding.{added_item, no_room_now, too_long}
use Rattle.nom_write_stream.proofs.outgoing.Outgoing.add.Goals as goal

pub returns-then-end-self-clause-added : goal.returns-then-end-self-clause-added
returns-then-end-self-clause-added g c =
    let old = c.args.self.now.held.bytes in
    let new = c.write.new.out.bytes in
    let w = c.in-Ok.ensures.written in (
      undone c.len-start.result old.items w.0 new.items new.items c.truncate.new.self.items (c.len-start.ensures ∙ old.ok.0) w.1 refl
          c.truncate.ensures.items,
      too_long (g.P.Writer.Form c.args.writer.now c.args.value.now) (g.P.Writer.Fails c.args.writer.now c.args.value.now) c.args.self.now.most
          c.len-start.result c.len-end.result old.items w.0 new.items (c.len-start.ensures ∙ old.ok.0) (c.len-end.ensures ∙ new.ok.0) w.1 w.2
          c.if-end-self.true,
    )

pub returns-else-end-start-clause-added : goal.returns-else-end-start-clause-added
returns-else-end-start-clause-added g c =
    let old = c.args.self.now.held.bytes in
    let new = c.write.new.out.bytes in
    let w = c.in-Ok.ensures.written in
    added_item (g.P.Writer.Form c.args.writer.now c.args.value.now) (g.P.Writer.Fails c.args.writer.now c.args.value.now) c.args.self.now.most
    c.len-start.result c.len-end.result old.items w.0 new.items (c.len-start.ensures ∙ old.ok.0) (c.len-end.ensures ∙ new.ok.0) w.1 w.2
    c.if-end-self.false c.if-end-start.false (subst FitsInput c.as_slice.ensures.value c.known.ensures)

pub returns-in-None-clause-added : goal.returns-in-None-clause-added
returns-in-None-clause-added g c =
    let old = c.args.self.now.held.bytes in
    let told : why_unwritten c.in-Err.error c.len-start.result ≡ None = sym c.why_of.ensures ∙ c.in-None.is in
    let w = c.in-Err.ensures.written in (
      w.0,
      no_room_now (g.P.Writer.Form c.args.writer.now c.args.value.now) (g.P.Writer.Fails c.args.writer.now c.args.value.now) c.args.self.now.most
          w.1.0 (length old.items) c.len-start.result c.in-Err.error told
          (omega (arith, c.args.self.now.room, w.1.1)) w.1.2,
    )
