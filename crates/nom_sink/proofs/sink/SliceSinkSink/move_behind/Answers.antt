use Rattle.std.proofs.Common.{arith, ◌-◌, drop, length-drop}
use Rattle.std.proofs.lemmas.List.{length-take}
use Rattle.std.proofs.lemmas.Slice.{drop-put_mid}
use Rattle.nom_sink.proofs.Moved.{moved_front}
use Rattle.nom_sink.proofs.sink.SliceSinkSink.move_behind.Goals as goal

pub returns-clause-items : goal.returns-clause-items
returns-clause-items g c =
    let buf = c.args.self.now.buffer.now in
    let u = c.min-used.result in
    let s = c.args.start in
    moved_front buf c.rotate_left.new.self c.args.self.now.used u s c.args.middle (omega arith) (omega arith) (λ b. omega (arith, b))
    (omega (arith, length-take c.args.self.now.used buf)) (omega (
      arith,
      c.rotate_left.ensures.len,
      length-take (u - s) (drop s buf),
      length-drop s buf,
      length-take c.args.self.now.used buf,
    )) c.rotate_left.ensures.after

pub returns-clause-rest : goal.returns-clause-rest
returns-clause-rest g c =
    let buf = c.args.self.now.buffer.now in
    let u = c.min-used.result in
    let s = c.args.start in
    drop-put_mid s (u - s) buf c.rotate_left.new.self _ (omega (arith, length-take c.args.self.now.used buf))
    (omega (arith, length-take c.args.self.now.used buf))
    (omega (arith, c.rotate_left.ensures.len, length-take (u - s) (drop s buf), length-drop s buf))
