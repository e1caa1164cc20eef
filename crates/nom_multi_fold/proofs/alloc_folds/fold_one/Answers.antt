use Rattle.std.proofs.Common.{◌≡◌, [], length, ap, arith, refl}
use Rattle.nom_error.specs.declared.kind.ErrorKind.TheVariants as Kind
use Rattle.nom_internal.specs.Prelude.{modes}
use Rattle.nom_internal.proofs.Shown.{accepts}
use Rattle.nom_repeat.specs.declared.items.TooFew.TheVariants.{Fresh}
use Rattle.nom_repeat.proofs.ItemsShown.{items_too_few}
use Rattle.nom_repeat.proofs.Repeated.{collected_none}
use Rattle.nom_multi_fold.specs.FoldAlloc.{IsPresent}
use Rattle.nom_multi_fold.proofs.FoldsAllocShown.{folds_by, folds_stopped}
use Rattle.nom_multi_fold.proofs.OneFolded.{at_start, first_limits, one_folded, one_lacks}
use Rattle.nom_multi_fold.proofs.alloc_folds.fold_one.Goals as goal

pub returns-in-Ok-folded-clause-shown : goal.returns-in-Ok-folded-clause-shown
returns-in-Ok-folded-clause-shown g c =
    let mode = modes g.OM.Output.Mode.BUILDS g.OM.Error.Mode.BUILDS g.OM.Incomplete.IsStreaming.STREAMING in
    let grammar = g.F.Parser.grammar (g.F.Parser.state c.args.parser.now) in
    one_folded g.met.I.Items.lawful grammar.IsOutput (IsPresent c.args.first) (λ r x q. g.G.Fn.post c.args.fold.now (r, (x, tt)) q) grammar.meaning
    mode c.known.ensures c.args.first c.requires.begun
    g.F.Error.ParseError.errors (accepts c.in-Ok.ensures.shown) c.in-Ok-folded.ensures

pub returns-in-Ok-clause-shown : goal.returns-in-Ok-clause-shown
returns-in-Ok-clause-shown g c =
    let mode = modes g.OM.Output.Mode.BUILDS g.OM.Error.Mode.BUILDS g.OM.Incomplete.IsStreaming.STREAMING in
    let grammar = g.F.Parser.grammar (g.F.Parser.state c.args.parser.now) in
    one_lacks g.met.I.Items.lawful grammar.IsOutput (IsPresent c.args.first) (λ r x q. g.G.Fn.post c.args.fold.now (r, (x, tt)) q) grammar.meaning
    mode c.known.ensures c.args.first c.requires.begun
    g.F.Error.ParseError.errors (accepts c.in-Ok.ensures.shown) c.in-Err.ensures

pub returns-in-Err-Error-clause-shown : goal.returns-in-Err-Error-clause-shown
returns-in-Err-Error-clause-shown g c =
    let mode = modes g.OM.Output.Mode.BUILDS g.OM.Error.Mode.BUILDS g.OM.Incomplete.IsStreaming.STREAMING in
    let grammar = g.F.Parser.grammar (g.F.Parser.state c.args.parser.now) in
    let none = at_start g.met.I.Items.lawful grammar.IsOutput (IsPresent c.args.first) (λ r x q. g.G.Fn.post c.args.fold.now (r, (x, tt)) q) grammar.meaning
    mode c.known.ensures c.args.first c.requires.begun in
    folds_by g.F.Error.ParseError.errors grammar.IsOutput (λ r x q. g.G.Fn.post c.args.fold.now (r, (x, tt)) q) grammar.meaning mode
    first_limits (IsPresent c.args.first)
    (items_too_few g.F.Error.ParseError.errors first_limits ⊥ grammar.meaning none (omega arith) refl (Fresh Kind.Many1) refl c.in-Err-Error.field-0-is
    c.in-Err-Error.ensures.shown refl c.refusal.ensures)

pub returns-in-Err-Failure-clause-shown : goal.returns-in-Err-Failure-clause-shown
returns-in-Err-Failure-clause-shown g c =
    let none = collected_none g.met.I.Items.lawful {Held = λ vs. vs ≡ []} c.known.ensures refl in
    folds_stopped g.F.Error.ParseError.errors (g.F.Parser.grammar (g.F.Parser.state c.args.parser.now)).meaning first_limits none
    (omega (arith, ap length none.held)) c.in-Err-Failure.field-0-is tt c.in-Err-Failure.ensures.shown

pub returns-in-Err-Incomplete-clause-shown : goal.returns-in-Err-Incomplete-clause-shown
returns-in-Err-Incomplete-clause-shown g c =
    let none = collected_none g.met.I.Items.lawful {Held = λ vs. vs ≡ []} c.known.ensures refl in
    folds_stopped g.F.Error.ParseError.errors (g.F.Parser.grammar (g.F.Parser.state c.args.parser.now)).meaning first_limits none
    (omega (arith, ap length none.held)) c.in-Err-Incomplete.field-0-is tt c.in-Err-Incomplete.ensures.shown
