use Rattle.std.specs.Prelude.{Ok}
use Rattle.nom_error.specs.declared.kind.ErrorKind.TheVariants as Kind
use Rattle.nom_internal.specs.Prelude.{modes}
use Rattle.nom_repeat.specs.Bounds.{any_limits}
use Rattle.nom_multi_fold.specs.FoldAlloc.{folded_meaning}
use Rattle.nom_multi_fold.proofs.FoldsAllocShown.{begun_lacks, begun_shown, first_made, shown_from, value_itself, value_of}
use Rattle.nom_multi_fold.proofs.alloc_folds.FoldMany0AllocParser.process.Goals as goal

pub returns-in_err-first-clause-shown : goal.returns-in_err-first-clause-shown
returns-in_err-first-clause-shown g c =
    let grammar = g.F.Parser.grammar (g.F.Parser.state c.args.self.now.parser) in
    let mode = modes g.OM.Output.Mode.BUILDS g.OM.Error.Mode.BUILDS g.OM.Incomplete.IsStreaming.STREAMING in
    let m = folded_meaning g.I.Items.model g.F.Error.ParseError.errors grammar.IsOutput (λ r x q. g.G.Fn.post c.args.self.now.fold (r, (x, tt)) q)
    grammar.meaning (any_limits Kind.Many0) (λ r. g.H.Fn.post c.args.self.now.init tt (Ok r)) in
    begun_lacks (λ r. g.H.Fn.post c.args.self.now.init tt r) m mode _ c.in_err-first.ensures c.from_residual.ensures

pub fold_items-requires-clause-begun : goal.fold_items-requires-clause-begun
fold_items-requires-clause-begun g c =
    value_itself g.OM.Output.Mode.BUILDS _ _ (first_made (λ r. g.H.Fn.post c.args.self.now.init tt r) _ g.OM.Output.Mode.BUILDS _ c.in_ok-first.ensures)

pub returns-clause-shown : goal.returns-clause-shown
returns-clause-shown g c =
    let grammar = g.F.Parser.grammar (g.F.Parser.state c.args.self.now.parser) in
    let mode = modes g.OM.Output.Mode.BUILDS g.OM.Error.Mode.BUILDS g.OM.Incomplete.IsStreaming.STREAMING in
    let made = first_made (λ r. g.H.Fn.post c.args.self.now.init tt r) _ g.OM.Output.Mode.BUILDS _ c.in_ok-first.ensures in
    let m = folded_meaning g.I.Items.model g.F.Error.ParseError.errors grammar.IsOutput (λ r x q. g.G.Fn.post c.args.self.now.fold (r, (x, tt)) q)
    grammar.meaning (any_limits Kind.Many0) (λ r. g.H.Fn.post c.args.self.now.init tt (Ok r)) in
    begun_shown (λ r. g.H.Fn.post c.args.self.now.init tt r) m mode
    (shown_from g.F.Error.ParseError.errors grammar.IsOutput (λ r x q. g.G.Fn.post c.args.self.now.fold (r, (x, tt)) q) grammar.meaning mode
    (any_limits Kind.Many0) _ _ (value_of g.OM.Output.Mode.BUILDS _ _ made) c.fold_items.ensures.shown)
