use Rattle.std.specs.Prelude.{Ok}
use Rattle.nom_error.specs.declared.kind.ErrorKind.TheVariants as Kind
use Rattle.nom_internal.specs.Prelude.{modes}
use Rattle.nom_internal.proofs.Shown.{accepts, then_err, then_ok}
use Rattle.nom_repeat.specs.Bounds.{any_limits}
use Rattle.nom_repeat.proofs.Parts.{shown_as, shown_at}
use Rattle.nom_multi_fold.specs.FoldAlloc.{IsPresent, first_and_later, folded_meaning}
use Rattle.nom_multi_fold.proofs.FoldsAllocShown.{Reached, begun_lacks, begun_shown, first_made, folds_after, shown_from, value_itself, value_of}
use Rattle.nom_multi_fold.proofs.OneFolded.{first_limits}
use Rattle.nom_multi_fold.proofs.alloc_folds.FoldMany1AllocParser.process.Goals as goal

pub returns-in_err-none-clause-shown : goal.returns-in_err-none-clause-shown
returns-in_err-none-clause-shown g c =
    let grammar = g.F.Parser.grammar (g.F.Parser.state c.args.self.now.parser) in
    let errs = g.F.Error.ParseError.errors in
    let mode = modes g.OM.Output.Mode.BUILDS g.OM.Error.Mode.BUILDS g.OM.Incomplete.IsStreaming.STREAMING in
    begun_lacks (λ r. g.H.Fn.post c.args.self.now.init tt r) (first_and_later g.I.Items.model errs grammar.IsOutput
    (λ r x q. g.G.Fn.post c.args.self.now.fold (r, (x, tt)) q) grammar.meaning
    (λ r. g.H.Fn.post c.args.self.now.init tt (Ok r))) mode _ c.in_err-none.ensures c.from_residual.ensures

pub fold_one-requires-clause-begun : goal.fold_one-requires-clause-begun
fold_one-requires-clause-begun g c = value_itself g.OM.Output.Mode.BUILDS _ _ (first_made (λ r. g.H.Fn.post c.args.self.now.init tt r) _
    g.OM.Output.Mode.BUILDS _ c.in_ok-none.ensures)

pub returns-in_err-rest-clause-shown : goal.returns-in_err-rest-clause-shown
returns-in_err-rest-clause-shown g c =
    let grammar = g.F.Parser.grammar (g.F.Parser.state c.args.self.now.parser) in
    let errs = g.F.Error.ParseError.errors in
    let mode = modes g.OM.Output.Mode.BUILDS g.OM.Error.Mode.BUILDS g.OM.Incomplete.IsStreaming.STREAMING in
    let made = first_made (λ r. g.H.Fn.post c.args.self.now.init tt r) _ g.OM.Output.Mode.BUILDS _ c.in_ok-none.ensures in
    begun_shown (λ r. g.H.Fn.post c.args.self.now.init tt r) (first_and_later g.I.Items.model errs grammar.IsOutput
    (λ r x q. g.G.Fn.post c.args.self.now.fold (r, (x, tt)) q) grammar.meaning
    (λ r. g.H.Fn.post c.args.self.now.init tt (Ok r))) mode
    (then_err g.met.I.Items.lawful (shown_from errs grammar.IsOutput (λ r x q. g.G.Fn.post c.args.self.now.fold (
      r,
      (x, tt),
    ) q) grammar.meaning mode first_limits _ _
    (value_of g.OM.Output.Mode.BUILDS _ _ made) c.in_err-rest.ensures.shown) c.from_residual-in_err-rest.ensures)

pub fold_items-requires-clause-begun : goal.fold_items-requires-clause-begun
fold_items-requires-clause-begun g c = value_itself g.OM.Output.Mode.BUILDS _ _ (accepts c.in_ok-rest.ensures.shown).built_is

pub returns-clause-shown : goal.returns-clause-shown
returns-clause-shown g c =
    let s = g.F.Parser.state c.args.self.now.parser in
    let grammar = g.F.Parser.grammar s in
    let errs = g.F.Error.ParseError.errors in
    let mode = modes g.OM.Output.Mode.BUILDS g.OM.Error.Mode.BUILDS g.OM.Incomplete.IsStreaming.STREAMING in
    let made = first_made (λ r. g.H.Fn.post c.args.self.now.init tt r) _ g.OM.Output.Mode.BUILDS _ c.in_ok-none.ensures in
    let one = shown_from errs grammar.IsOutput (λ r x q. g.G.Fn.post c.args.self.now.fold (r, (x, tt)) q) grammar.meaning mode first_limits _ _
    (value_of g.OM.Output.Mode.BUILDS _ _ made) c.in_ok-rest.ensures.shown in
    let more = shown_at (λ z. record {
      meaning = folded_meaning g.I.Items.model errs (g.F.Parser.grammar z).IsOutput (λ r x q. g.G.Fn.post c.args.self.now.fold (r, (x, tt)) q)
          (g.F.Parser.grammar z).meaning
          (any_limits Kind.Many1) (IsPresent c.in_ok-rest.first);
      IsOutput = Reached (g.F.Parser.grammar z).IsOutput (IsPresent c.in_ok-rest.first) (λ r x q. g.G.Fn.post c.args.self.now.fold (r, (x, tt)) q);
    }) c.in_ok-rest.ensures.kept c.fold_items.ensures.shown in
    begun_shown (λ r. g.H.Fn.post c.args.self.now.init tt r) (first_and_later g.I.Items.model errs grammar.IsOutput
    (λ r x q. g.G.Fn.post c.args.self.now.fold (r, (x, tt)) q) grammar.meaning
    (λ r. g.H.Fn.post c.args.self.now.init tt (Ok r))) mode
    (then_ok g.met.I.Items.lawful one
    (λ vs b. shown_as (λ us r. folds_after grammar.IsOutput (λ r. g.H.Fn.post c.args.self.now.init tt (Ok r)) (λ r x q. g.G.Fn.post c.args.self.now.fold
    (r, (x, tt)) q) vs us r)
    (shown_from errs grammar.IsOutput (λ r x q. g.G.Fn.post c.args.self.now.fold (r, (x, tt)) q) grammar.meaning mode (any_limits Kind.Many1) _ _
    (value_of g.OM.Output.Mode.BUILDS _ _ b) more)))
