use Rattle.std.proofs.Common.{◌≡◌, ◌≤◌}
use Rattle.nom_sink.specs.Lists.{ItemFails, ItemForm}
use Rattle.nom_sink.proofs.Lists.{SoFar}
use Rattle.nom_sink.proofs.items.with_each.Given as goal

abbrev pub invariant-loop-item : goal.invariant-loop-item
invariant-loop-item g l = record {
  so_far : SoFar (ItemForm l.some (g.P.PutItem.Form l.by)) (ItemFails l.some (g.P.PutItem.Form l.by)
      (g.P.PutItem.Fails l.by)) g.S.Sink.model.lack l.items l.item-index (g.S.Sink.model.items l.fn.out) (g.S.Sink.model.items l.out);
  room : g.S.Sink.model.room l.fn.out ≤ g.S.Sink.model.room l.out;
  loan : g.S.Sink.model.loan l.out ≡ g.S.Sink.model.loan l.fn.out;
}
