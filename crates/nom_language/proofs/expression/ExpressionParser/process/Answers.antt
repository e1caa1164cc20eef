use Rattle.std.proofs.Common.{◌∙◌, Ok, Some, ap, refl, subst, sym}
use Rattle.nom_error.specs.declared.kind.ErrorKind.TheVariants as Kind
use Rattle.nom_internal.specs.Prelude.{OfError}
use Rattle.nom_internal.proofs.Judges.{judged_err, judged_fit}
use Rattle.nom_internal.proofs.Shown.{built_error, err_from_residual}
use Rattle.nom_language.specs.Evaluated.{IsEvaluated}
use Rattle.nom_language.specs.Precedences.{PrefixesWait, terms_meaning}
use Rattle.nom_language.proofs.AllocationShown.{lacking_if_shown, stopped_shown}
use Rattle.nom_language.proofs.expression.ExpressionParser.process.Goals as goal

pub returns-in_err-end-clause-shown : goal.returns-in_err-end-clause-shown
returns-in_err-end-clause-shown g c =
    let term = g.T.Parser.grammar (g.T.Parser.state c.args.self.now.pair.1) in
    let binary = g.C.Parser.grammar (g.C.Parser.state c.args.self.now.pair.0) in
    let read = terms_meaning g.I.Items.model g.T.Error.ParseError.errors (PrefixesWait term.IsOutput) term.meaning binary.meaning in
    let Evaluates = IsEvaluated term.IsOutput binary.IsOutput (λ o. g.G.Fn.post c.args.self.now.fold (o, tt)) in
    lacking_if_shown Evaluates read _ g.W.FoldErrors.no_memory (judged_err {Takes = λ _. Unit {0}} {Gives = g.W.FoldErrors.Returns}
    (λ i. OfError (g.T.Error.FromExternalError.externals.of_external i Kind.Precedence)) read (record { takes = λ t p h. tt })
    c.in_err-end.ensures.shown (err_from_residual c.from_residual.ensures))

pub returns-in-Ok-clause-shown : goal.returns-in-Ok-clause-shown
returns-in-Ok-clause-shown g c =
    let term = g.T.Parser.grammar (g.T.Parser.state c.args.self.now.pair.1) in
    let binary = g.C.Parser.grammar (g.C.Parser.state c.args.self.now.pair.0) in
    let read = terms_meaning g.I.Items.model g.T.Error.ParseError.errors (PrefixesWait term.IsOutput) term.meaning binary.meaning in
    let Evaluates = IsEvaluated term.IsOutput binary.IsOutput (λ o. g.G.Fn.post c.args.self.now.fold (o, tt)) in
    lacking_if_shown Evaluates read _ g.W.FoldErrors.no_memory (judged_fit {Takes = λ _. Unit {0}} {Gives = g.W.FoldErrors.Returns}
    (λ i. OfError (g.T.Error.FromExternalError.externals.of_external i Kind.Precedence)) read {r = Ok c.in-Ok.value} (record { takes = λ t p h. tt })
    (c.emitted.ensures ∙ ap Some c.in-Ok.is) (g.met.W.FoldErrors.returns_value c.in-Ok.value) refl c.in_ok-end.ensures.shown
    (λ t h. built_error g.OM.Output.Mode.BUILDS _ _ _ (λ y e. subst (λ z. Evaluates t (Ok z)) (sym e) h) c.built.ensures))

pub returns-in-Err-clause-shown : goal.returns-in-Err-clause-shown
returns-in-Err-clause-shown g c =
    let term = g.T.Parser.grammar (g.T.Parser.state c.args.self.now.pair.1) in
    let binary = g.C.Parser.grammar (g.C.Parser.state c.args.self.now.pair.0) in
    stopped_shown (IsEvaluated term.IsOutput binary.IsOutput (λ o. g.G.Fn.post c.args.self.now.fold (o, tt)))
    (terms_meaning g.I.Items.model g.T.Error.ParseError.errors (PrefixesWait term.IsOutput) term.meaning binary.meaning)
    (λ i. g.T.Error.FromExternalError.externals.of_external i Kind.Precedence) g.T.Error.FromExternalError.externals.grows g.W.FoldErrors.Returns
    g.W.FoldErrors.no_memory _ c.told.ensures (c.emitted.ensures ∙ ap Some c.in-Err.is) c.in_ok-end.ensures.shown c.stopped.ensures
