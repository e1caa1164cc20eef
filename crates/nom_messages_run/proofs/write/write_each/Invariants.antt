use Rattle.std.specs.Prelude.{◌≡◌, vec_capacity}
use Rattle.nom_messages_run.proofs.SentLines.{Going}
use Rattle.nom_messages_run.proofs.write.write_each.Given as goal

abbrev pub invariant-loop-turn : goal.invariant-loop-turn
invariant-loop-turn g l = record {
  going : Going g.R.Read.remaining g.W.Write.contents l.fn.stream l.fn.outgoing l.turn (vec_capacity l.room) l.stream l.outgoing;
  flushes : l.outgoing.target.flushes ≡ l.fn.outgoing.target.flushes;
}
