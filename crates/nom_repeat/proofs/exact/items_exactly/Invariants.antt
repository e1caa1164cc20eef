use Rattle.std.proofs.Common.{◌≡◌, ◌-◌, Some, length}
use Rattle.nom_internal.specs.Prelude.{Built}
use Rattle.nom_repeat.specs.Repeat.{TurnsBy}
use Rattle.nom_repeat.specs.Items.{item_turn}
use Rattle.nom_repeat.specs.Bounds.{exact_limits}
use Rattle.nom_repeat.specs.Accumulated.{Accumulated}
use Rattle.nom_repeat.specs.Lists.{ListPushes}
use Rattle.nom_repeat.proofs.Repeated.{Collected}
use Rattle.nom_repeat.proofs.exact.items_exactly.Given as goal

abbrev pub invariant-loop-done : goal.invariant-loop-done
invariant-loop-done g l = record {
  state_kept : g.F.Parser.state l.parser ≡ g.F.Parser.state l.fn.parser;
  collected : Collected g.I.Items.model
      (TurnsBy (Some l.fn.count) (item_turn (exact_limits l.fn.count)) (λ _. (g.F.Parser.grammar (g.F.Parser.state l.fn.parser)).meaning.answers
      g.OM.Incomplete.IsStreaming.STREAMING))
      (λ vs. Built g.OM.Output.Mode.BUILDS (Accumulated ListPushes (λ _. Unit {0})
      (g.F.Parser.grammar (g.F.Parser.state l.fn.parser)).IsOutput
      l.fn.before vs)
      l.kept × (l.done ≡ length vs))
      l.fn.input l.rest;
}

abbrev pub decreases-loop-done : goal.decreases-loop-done
decreases-loop-done g l = l.fn.count - l.done
