use Rattle.std.proofs.Common.{arith, ◌+◌, ◌-◌, length}
use Rattle.std.proofs.lemmas.List.{length-take}
use Rattle.std.proofs.lemmas.Slice.{drop-put_mid}
use borrow.Rule.Slice.PartMut.{put_mid}
use Rattle.nom_sink.proofs.Moved.{same_length}
use Rattle.nom_sink.proofs.sink.SliceSinkSink.add.Goals as goal

pub returns-then-items-self-clause-rest : goal.returns-then-items-self-clause-rest
returns-then-items-self-clause-rest g c =
    let buf = c.args.self.now.buffer.now in
    let u = c.min-used.result in
    let end = u + length c.args.items.now in
    let new = c.copy_from_slice.new.self in
    drop-put_mid u (end - u) buf new _ (omega (
      arith,
      length-take end (put_mid u (end - u) buf new),
      same_length u (end - u) buf new (omega arith) (omega arith),
    )) (omega arith) (omega arith)
