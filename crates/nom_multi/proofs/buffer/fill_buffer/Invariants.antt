use Rattle.std.proofs.Common.{◌≡◌, ◌-◌, Some, length}
use Rattle.nom_repeat.specs.Repeat.{TurnsBy}
use Rattle.nom_repeat.specs.Items.{item_turn}
use Rattle.nom_repeat.proofs.Repeated.{Collected}
use Rattle.nom_multi.specs.Fill.{HoldsItems}
use Rattle.nom_multi.proofs.buffer.fill_buffer.Given as goal
use Rattle.nom_repeat.specs.Bounds.{exact_limits}

abbrev pub invariant-loop-count : goal.invariant-loop-count
invariant-loop-count g l = record {
  state_kept : g.F.Parser.state l.parser ≡ g.F.Parser.state l.fn.parser;
  length_kept : length l.buffer ≡ length l.fn.buffer;
  collected : Collected g.I.Items.model
      (TurnsBy (Some (length l.fn.buffer)) (item_turn (exact_limits (length l.fn.buffer)))
      (λ _. (g.F.Parser.grammar (g.F.Parser.state l.fn.parser)).meaning.answers g.OM.Incomplete.IsStreaming.STREAMING))
      (λ vs. HoldsItems (g.F.Parser.grammar (g.F.Parser.state l.fn.parser)).IsOutput g.OM.Output.Mode.BUILDS l.fn.buffer vs l.buffer × (l.count ≡ length vs))
      l.fn.input l.rest;
}

abbrev pub decreases-loop-count : goal.decreases-loop-count
decreases-loop-count g l = length l.fn.buffer - l.count
