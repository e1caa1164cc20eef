use Rattle.std.proofs.Common.{◌≡◌, ◌≤◌}
use Rattle.nom_sink.proofs.Texts.{IsOnText}
use Rattle.nom_sink.proofs.text.add_text.Given as goal

abbrev pub invariant-loop-c : goal.invariant-loop-c
invariant-loop-c g l = record {
  can : (goal.iterator-loop-c g).can_next l.c-iterator;
  finite : (goal.iterator-loop-c g).is_finite l.c-iterator;
  on_way : IsOnText l.text l.c-iterator.rest.now (g.S.Sink.model.items l.fn.out) (g.S.Sink.model.items l.out);
  room : g.S.Sink.model.room l.fn.out ≤ g.S.Sink.model.room l.out;
  loan : g.S.Sink.model.loan l.out ≡ g.S.Sink.model.loan l.fn.out;
}
