use Rattle.std.proofs.Common.{Ok, take}
use Rattle.nom_run.specs.Pieces.{HasRoom, Puts}
use Rattle.nom_run.specs.Texts.{lines_text}
use Rattle.nom_run.proofs.pieces.put_each.Given as goal

abbrev pub invariant-loop-item : goal.invariant-loop-item
invariant-loop-item g l = record {
  room : HasRoom l.room;
  puts : Puts (g.W.ByteWriter.account l.fn.sink) (g.W.ByteWriter.account l.sink) l.fn.room.items
      (lines_text (g.P.InPieces.lines l.each) (take l.item-index l.items)) l.room.items (Ok tt);
}
