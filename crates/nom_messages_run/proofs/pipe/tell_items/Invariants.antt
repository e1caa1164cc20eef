use Rattle.std.proofs.Common.{◌≡◌, ◌<◌, ◌≤◌}
use Rattle.std.specs.Prelude.{vec_capacity, vec_len}
use Rattle.nom_messages_run.proofs.Piped.{Going}
use Rattle.nom_messages_run.proofs.pipe.tell_items.Given as goal

abbrev pub invariant-loop-turn : goal.invariant-loop-turn
invariant-loop-turn g l = record {
  few : vec_len l.room ≤ 65536;
  fresh : vec_capacity l.room < 65536 → (l._turn ≡ 0) × (l.sink ≡ l.fn.sink);
  kept : g.G.ItemParser.state l.grammar ≡ g.G.ItemParser.state l.fn.grammar;
  going : Going g.R.Read.remaining (g.G.ItemParser.grammar (g.G.ItemParser.state l.fn.grammar)) l.fn.stream l.stream (g.W.ByteWriter.account l.fn.sink)
      (g.W.ByteWriter.account l.sink) l.room.items l._turn;
}
