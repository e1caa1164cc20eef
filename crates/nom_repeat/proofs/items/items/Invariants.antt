use Rattle.std.proofs.Common.{◌≡◌}
use Rattle.nom_internal.specs.Prelude.{Built, input_len}
use Rattle.nom_repeat.specs.Repeat.{TurnsBy}
use Rattle.nom_repeat.specs.Items.{item_turn}
use Rattle.nom_repeat.specs.Accumulated.{Accumulated}
use Rattle.nom_repeat.proofs.Repeated.{Collected}
use Rattle.nom_repeat.proofs.Counted.{Counts, left}
use Rattle.nom_repeat.proofs.items.items.Given as goal

abbrev pub invariant-loop-input : goal.invariant-loop-input
invariant-loop-input g l = record {
  state_kept : g.F.Parser.state l.parser ≡ g.F.Parser.state l.fn.parser;
  collected : Collected g.I.Items.model
      (TurnsBy l.fn.limits.most (item_turn l.fn.limits)
      (λ _. (g.F.Parser.grammar (g.F.Parser.state l.fn.parser)).meaning.answers g.OM.Incomplete.IsStreaming.STREAMING))
      (λ vs. Built g.OM.Output.Mode.BUILDS (Accumulated g.K.Accumulator.Pushes g.K.Accumulator.CanPush
      (g.F.Parser.grammar (g.F.Parser.state l.fn.parser)).IsOutput
      l.fn.before vs)
      l.kept × Counts l.fn.limits.most l.count vs) l.fn.input l.rest;
}

abbrev pub decreases-loop-input : goal.decreases-loop-input
decreases-loop-input g l = left l.fn.limits.empty l.fn.limits.most l.count (input_len g.I.Items.model l.rest)
