use Rattle.std.specs.Prelude.{◌≡◌, None}
use Rattle.nom_internal.specs.Prelude.{Built, input_len}
use Rattle.nom_repeat.specs.Bounds.{any_limits}
use Rattle.nom_repeat.specs.Items.{item_turn}
use Rattle.nom_repeat.specs.Repeat.{TurnsBy}
use Rattle.nom_repeat.proofs.Repeated.{Collected}
use Rattle.nom_multi_fold.specs.FoldAlloc.{IsPresent}
use Rattle.nom_multi_fold.proofs.FoldsAllocShown.{Reached}
use Rattle.nom_multi_fold.proofs.alloc_folds.fold_items.Given as goal

abbrev pub invariant-loop-next : goal.invariant-loop-next
invariant-loop-next g l = record {
  state_kept : g.F.Parser.state l.parser ≡ g.F.Parser.state l.fn.parser;
  collected : Collected g.I.Items.model
      (TurnsBy None (item_turn (any_limits l.fn.kind))
      (λ _. (g.F.Parser.grammar (g.F.Parser.state l.fn.parser)).meaning.answers g.OM.Incomplete.IsStreaming.STREAMING))
      (λ vs. Built g.OM.Output.Mode.BUILDS (Reached (g.F.Parser.grammar (g.F.Parser.state l.fn.parser)).IsOutput (IsPresent l.fn.first)
      (λ r x q. g.G.Fn.post l.fn.fold (r, (x, tt)) q) vs) l.value) l.fn.input l.rest;
}

abbrev pub decreases-loop-next : goal.decreases-loop-next
decreases-loop-next g l = input_len g.I.Items.model l.rest
