use Rattle.std.proofs.Common.{◌≡◌}
use Rattle.nom_stream.specs.Each.{Gives}
use Rattle.nom_stream.proofs.stream.Stream.for_each_item.Given as goal

abbrev pub invariant-loop-turn : goal.invariant-loop-turn
invariant-loop-turn g l = record {
  callable : goal.F-IsAlwaysCallable g l.f;
  kept : g.G.ItemParser.state l.grammar ≡ g.G.ItemParser.state l.fn.grammar;
  given : Gives g.R.Read.remaining (g.G.ItemParser.grammar (g.G.ItemParser.state l.fn.grammar)) (λ p x q. goal.F-step g p x tt q)
      l.fn.self l.self l.fn.f l.f l.turn;
}
