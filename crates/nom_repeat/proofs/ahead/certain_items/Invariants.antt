use Rattle.std.proofs.Common.{◌≡◌, ◌-◌, ◌≤◌, length}
use Rattle.nom_internal.specs.Prelude.{Built}
use Rattle.nom_repeat.specs.Accumulated.{Accumulated, HasRoomFor}
use Rattle.nom_repeat.specs.Certain.{AreCertain}
use Rattle.nom_repeat.specs.Items.{item_turn}
use Rattle.nom_repeat.specs.Repeat.{AreBelow, Collected, TurnsBy}
use Rattle.nom_repeat.specs.declared.items.Limits.{Limits}
use Rattle.nom_repeat.proofs.ahead.certain_items.Given as goal

abbrev pub invariant-loop-done : goal.invariant-loop-done
invariant-loop-done g l = record {
  state_kept : g.F.Parser.state l.parser ≡ g.F.Parser.state l.fn.parser;
  collected : (b : Limits) → AreBelow b.most l.fn.count → Collected g.I.Items.model
      (TurnsBy b.most (item_turn b) (λ _. (g.F.Parser.grammar (g.F.Parser.state l.fn.parser)).meaning.answers g.OM.Incomplete.IsStreaming.STREAMING))
      (λ vs. Built g.OM.Output.Mode.BUILDS (Accumulated g.K.Accumulator.Pushes g.K.Accumulator.CanPush
      (g.F.Parser.grammar (g.F.Parser.state l.fn.parser)).IsOutput
      l.fn.before vs)
      l.kept × (l.done ≡ length vs))
      l.fn.input l.rest;
  certain : AreCertain g.I.Items.model (g.F.Parser.grammar (g.F.Parser.state l.fn.parser)).meaning (l.fn.count - l.done) l.rest;
  room : HasRoomFor g.K.Accumulator.HasRoom l.kept (l.fn.count - l.done);
  within : l.done ≤ l.fn.count;
}

abbrev pub decreases-loop-done : goal.decreases-loop-done
decreases-loop-done g l = l.fn.count - l.done
