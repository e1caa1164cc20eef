use Rattle.std.proofs.Common.{◌≡◌, length}
use Rattle.nom_stream.specs.Held.{held_of}
use Rattle.nom_stream.proofs.Telling.{SoFar, turns_left}
use Rattle.nom_stream.proofs.stream.Stream.next_item.Given as goal

abbrev pub invariant-parses : goal.invariant-parses
invariant-parses g l = record {
  kept : g.G.ItemParser.state l.grammar ≡ g.G.ItemParser.state l.fn.grammar;
  so_far : SoFar g.R.Read.remaining (g.G.ItemParser.grammar (g.G.ItemParser.state l.fn.grammar)) l.fn.self l.self l.lacks;
}

abbrev pub decreases-parses : goal.decreases-parses
decreases-parses g l = turns_left l.self.ended l.lacks l.self.settings.most (length (held_of l.self.held))
