use Rattle.std.proofs.Common.{inr, refl}
use Rattle.nom_internal.specs.Prelude.{modes}
use Rattle.nom_internal.proofs.Shown.{accepts}
use Rattle.nom_repeat.specs.Bounds.{any_limits}
use Rattle.nom_repeat.proofs.Parts.{shown_at}
use Rattle.nom_repeat.proofs.Repeated.{collected_none, consumes, is_empty, is_shorter}
use Rattle.nom_repeat.proofs.ItemsShown.{items_more, items_refused, items_stuck}
use Rattle.nom_multi_fold.specs.FoldAlloc.{IsPresent}
use Rattle.nom_multi_fold.proofs.FoldsAllocShown.{folds_by, folds_lack, folds_more, folds_none, folds_stopped, none_below}
use Rattle.nom_multi_fold.proofs.alloc_folds.fold_items.Goals as goal

pub loop-next-init : goal.loop-next-init
loop-next-init g c = record {
  state_kept = refl;
  collected = collected_none g.met.I.Items.lawful c.known.ensures (folds_none (g.F.Parser.grammar (g.F.Parser.state c.args.parser.now)).IsOutput
      (IsPresent c.args.first) (λ r x q. g.G.Fn.post c.args.fold.now (r, (x, tt)) q) _ _ c.requires.begun);
}

pub returns-then-input_len-clause-shown : goal.returns-then-input_len-clause-shown
returns-then-input_len-clause-shown g c =
    let i = c.loop-next.invariant in
    let mode = modes g.OM.Output.Mode.BUILDS g.OM.Error.Mode.BUILDS g.OM.Incomplete.IsStreaming.STREAMING in
    let grammar = g.F.Parser.grammar (g.F.Parser.state c.args.parser.now) in
    let item = accepts (shown_at g.F.Parser.grammar i.state_kept c.in-Ok.ensures.shown) in
    let empty = is_empty item.rest_is c.input_len.ensures c.input_len-in-Ok.ensures c.if-input_len.true in
    folds_by g.F.Error.ParseError.errors grammar.IsOutput (λ r x q. g.G.Fn.post c.args.fold.now (r, (x, tt)) q) grammar.meaning mode
    (any_limits c.args.kind) (IsPresent c.args.first)
    (items_stuck g.F.Error.ParseError.errors (any_limits c.args.kind) ⊥ grammar.meaning i.collected tt item c.args.kind refl empty c.refusal.ensures)

pub loop-next-smaller : goal.loop-next-smaller
loop-next-smaller g c =
    let item = accepts c.in-Ok.ensures.shown in
    is_shorter item.rest_is (consumes item.rest_is c.input_len.ensures c.input_len-in-Ok.ensures c.if-input_len.false)

pub loop-next-preserved : goal.loop-next-preserved
loop-next-preserved g c =
    let i = c.loop-next.invariant in
    let grammar = g.F.Parser.grammar (g.F.Parser.state c.args.parser.now) in
    let item = accepts (shown_at g.F.Parser.grammar i.state_kept c.in-Ok.ensures.shown) in
    let moves = consumes item.rest_is c.input_len.ensures c.input_len-in-Ok.ensures c.if-input_len.false in
    record {
      state_kept = cc;
      collected = items_more g.met.I.Items.lawful (any_limits c.args.kind) i.collected tt item (inr moves)
          (folds_more grammar.IsOutput (IsPresent c.args.first)
          (λ r x q. g.G.Fn.post c.args.fold.now (r, (x, tt)) q) _ i.collected.trees item.tree _ _ _ c.in-Ok-folded.ensures i.collected.held item.built_is);
    }

pub returns-in-Err-clause-shown : goal.returns-in-Err-clause-shown
returns-in-Err-clause-shown g c =
    let i = c.loop-next.invariant in
    let mode = modes g.OM.Output.Mode.BUILDS g.OM.Error.Mode.BUILDS g.OM.Incomplete.IsStreaming.STREAMING in
    let grammar = g.F.Parser.grammar (g.F.Parser.state c.args.parser.now) in
    let item = accepts (shown_at g.F.Parser.grammar i.state_kept c.in-Ok.ensures.shown) in
    let moves = consumes item.rest_is c.input_len.ensures c.input_len-in-Ok.ensures c.if-input_len.false in
    folds_lack g.F.Error.ParseError.errors grammar.IsOutput (λ r x q. g.G.Fn.post c.args.fold.now (r, (x, tt)) q) grammar.meaning mode
    (any_limits c.args.kind) (IsPresent c.args.first)
    _ i.collected tt item (inr moves) i.collected.held c.in-Err.ensures

pub returns-in-Err-Error-clause-shown : goal.returns-in-Err-Error-clause-shown
returns-in-Err-Error-clause-shown g c =
    let i = c.loop-next.invariant in
    let mode = modes g.OM.Output.Mode.BUILDS g.OM.Error.Mode.BUILDS g.OM.Incomplete.IsStreaming.STREAMING in
    let grammar = g.F.Parser.grammar (g.F.Parser.state c.args.parser.now) in
    let part = shown_at g.F.Parser.grammar i.state_kept c.in-Err-Error.ensures.shown in
    folds_by g.F.Error.ParseError.errors grammar.IsOutput (λ r x q. g.G.Fn.post c.args.fold.now (r, (x, tt)) q) grammar.meaning mode
    (any_limits c.args.kind) (IsPresent c.args.first)
    (items_refused g.F.Error.ParseError.errors (any_limits c.args.kind) ⊥ grammar.meaning i.collected tt
    (none_below i.collected.trees) c.in-Err-Error.field-0-is part i.collected.held)

pub returns-in-Err-Failure-clause-shown : goal.returns-in-Err-Failure-clause-shown
returns-in-Err-Failure-clause-shown g c =
    let i = c.loop-next.invariant in
    rw c.in-Err-Failure.field-0-is (
    folds_stopped g.F.Error.ParseError.errors (g.F.Parser.grammar (g.F.Parser.state c.args.parser.now)).meaning (any_limits c.args.kind) i.collected tt
    c.in-Err-Failure.field-0-is tt (shown_at g.F.Parser.grammar i.state_kept c.in-Err-Failure.ensures.shown))

pub returns-in-Err-Incomplete-clause-shown : goal.returns-in-Err-Incomplete-clause-shown
returns-in-Err-Incomplete-clause-shown g c =
    let i = c.loop-next.invariant in
    rw c.in-Err-Incomplete.field-0-is (
    folds_stopped g.F.Error.ParseError.errors (g.F.Parser.grammar (g.F.Parser.state c.args.parser.now)).meaning (any_limits c.args.kind) i.collected tt
    c.in-Err-Incomplete.field-0-is tt (shown_at g.F.Parser.grammar i.state_kept c.in-Err-Incomplete.ensures.shown))

pub returns-in-Err-OutOfMemory-clause-shown : goal.returns-in-Err-OutOfMemory-clause-shown
returns-in-Err-OutOfMemory-clause-shown g c =
    let i = c.loop-next.invariant in
    folds_stopped g.F.Error.ParseError.errors (g.F.Parser.grammar (g.F.Parser.state c.args.parser.now)).meaning (any_limits c.args.kind) i.collected tt
    c.in-Err-OutOfMemory.field-0-is tt (shown_at g.F.Parser.grammar i.state_kept c.in-Err-OutOfMemory.ensures.shown)
