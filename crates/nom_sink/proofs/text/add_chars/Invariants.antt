use Rattle.std.proofs.Common.{◌≤◌, vec_capacity}
use Rattle.nom_sink.proofs.Texts.{Added}
use Rattle.nom_sink.proofs.text.add_chars.Given as goal

abbrev pub invariant-loop-item : goal.invariant-loop-item
invariant-loop-item g l = record {
  added : Added l.fn.bytes.items l.items l.item-index l.bytes.items;
  room : vec_capacity l.fn.bytes ≤ vec_capacity l.bytes;
}
