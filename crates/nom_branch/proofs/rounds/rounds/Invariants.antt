use Rattle.std.specs.Prelude.{◌≡◌, length, Result, Option}
use Rattle.nom_internal.specs.Prelude.{Needed}
use Rattle.nom_error.specs.declared.answer.Err as Answer
use Rattle.nom_branch.specs.Rounds.{FlatOutput}
use Rattle.nom_branch.proofs.Turns.{ShowsRounds}
use Rattle.nom_branch.proofs.rounds.rounds.Given as goal

abbrev pub invariant-loop-slots : goal.invariant-loop-slots
invariant-loop-slots g l = record {
  kept : g.N.Nested.state l.members ≡ g.N.Nested.state l.fn.members;
  known : g.I.Items.model.IsKnown l.rest;
  reached : (t : g.N.Nested.Tree) × g.N.Nested.AreHeld g.OM.Output.Mode.BUILDS (g.N.Nested.state l.fn.members) t l.slots ×
      ((r : Result _ (Answer.Err _ (Option _) Needed)) →
      ShowsRounds g.I.Items.model g.N.Error.ParseError.errors (g.N.Nested.members (g.N.Nested.state l.fn.members))
      (FlatOutput (g.N.Nested.AreOutputs (g.N.Nested.state l.fn.members)) g.N.Outputs.Flat.pairs)
      g.OM.Output.Mode.BUILDS g.OM.Error.Mode.BUILDS g.OM.Incomplete.IsStreaming.STREAMING
      (g.N.Nested.waiting l.slots) t l.rest r →
      ShowsRounds g.I.Items.model g.N.Error.ParseError.errors (g.N.Nested.members (g.N.Nested.state l.fn.members))
      (FlatOutput (g.N.Nested.AreOutputs (g.N.Nested.state l.fn.members)) g.N.Outputs.Flat.pairs)
      g.OM.Output.Mode.BUILDS g.OM.Error.Mode.BUILDS g.OM.Incomplete.IsStreaming.STREAMING
      (length (g.N.Nested.members (g.N.Nested.state l.fn.members))) g.N.Nested.none l.fn.input r);
}

abbrev pub decreases-loop-slots : goal.decreases-loop-slots
decreases-loop-slots g l = g.N.Nested.waiting l.slots
