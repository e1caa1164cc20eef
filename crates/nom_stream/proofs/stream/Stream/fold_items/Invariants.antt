use Rattle.std.proofs.Common.{◌≡◌}
use Rattle.nom_stream.specs.Each.{Gives}
use Rattle.nom_stream.proofs.stream.Stream.fold_items.Given as goal

abbrev pub invariant-loop-turn : goal.invariant-loop-turn
invariant-loop-turn g l = record {
  callable : goal.F-IsAlwaysCallable g l.f;
  kept : g.G.ItemParser.state l.grammar ≡ g.G.ItemParser.state l.fn.grammar;
  given : Gives g.R.Read.remaining (g.G.ItemParser.grammar (g.G.ItemParser.state l.fn.grammar)) {P = g.row.F.Denot × g.row.B.Denot}
      (λ p x q. goal.F-step g p.0 p.1 x q.1 q.0) l.fn.self l.self (l.fn.f, l.fn.init) (l.f, l.acc) l._turn;
}
