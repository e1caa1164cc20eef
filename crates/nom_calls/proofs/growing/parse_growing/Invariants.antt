use Rattle.std.proofs.Common.{◌≡◌, ℕ, ◌<◌, slice_index}
use Rattle.nom_calls.specs.Growing.{Waits}
use Rattle.nom_calls.proofs.growing.parse_growing.Given as goal

abbrev pub invariant-loop-index : goal.invariant-loop-index
invariant-loop-index g l = record {
  kept : g.P.Parser.state l.parser ≡ g.P.Parser.state l.fn.parser;
  waited : (k : ℕ) → k < l.index → Waits g.I.Items.model (g.P.Parser.grammar (g.P.Parser.state l.fn.parser)).meaning l.whole (slice_index l.cuts k);
}
