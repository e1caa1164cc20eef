use Rattle.std.proofs.Common.{Some, inr, refl, subst, sym, true}
use Rattle.std.specs.Prelude.{IfSome, IsSome}
use Rattle.nom_error.specs.declared.kind.ErrorKind.TheVariants as Kind
use Rattle.nom_internal.specs.Prelude.{RanOut, modes}
use Rattle.nom_internal.proofs.Choices.{closed_shown}
use Rattle.nom_internal.proofs.Shown.{accepts, then_err, then_ok, output_err, output_ok}
use Rattle.nom_repeat.proofs.Parts.{shown_at}
use Rattle.nom_repeat.specs.Accumulated.{Accumulated}
use Rattle.nom_repeat.specs.Bounds.{any_limits}
use Rattle.nom_repeat.specs.Items.{items_meaning}
use Rattle.nom_operators.specs.Steps.{HasOutermost}
use Rattle.nom_operators.specs.declared.operation.Operation.{Operation}
use Rattle.nom_language.specs.helpers.Accumulated.{PairPushes}
use Rattle.nom_language.specs.Precedences.{PrefixesWait, operator_and_term_meaning}
use Rattle.nom_language.specs.declared.evaluation.Evaluation.{Evaluation}
use Rattle.nom_language.proofs.EvaluationShown.{runs_out_beside, closed_lacks, of_built, evaluated_built, term_waits, that_some}
use Rattle.nom_language.proofs.expression.terms.Given as given
use Rattle.nom_language.proofs.expression.terms.Goals as goal

-- what accumulates pairs
abbrev Accumulator : given.Over → Type 0
Accumulator g = Evaluation g.row.P.Denot g.row.Q.Denot g.row.B.Denot g.row.O.Denot g.row.X.Denot g.row.A.Denot g.row.G.Denot

-- and when it may take one
abbrev CanPush : (g : given.Over) → Accumulator g → Type 0
CanPush g k =
    IsSome k.waiting.partial
    × IfSome k.waiting.partial (λ r. HasOutermost r.innermost k.waiting.outer.items)
    × ((x : Operation g.row.P.Denot g.row.Q.Denot g.row.B.Denot g.row.O.Denot) → g.G.Fn.pre k.fold.now (x, tt))

pub returns-in_err-rest-clause-shown : goal.returns-in_err-rest-clause-shown
returns-in_err-rest-clause-shown g c =
    let term = g.T.Parser.grammar (g.T.Parser.state c.args.pair.now.1) in
    let errs = g.T.Error.ParseError.errors in
    let closed = closed_shown g.I.Items.model term.IsOutput (modes true g.OM.Error.Mode.BUILDS g.OM.Incomplete.IsStreaming.STREAMING) c.args.input
    term.meaning (λ i. errs.appended i Kind.Precedence) errs.grows c.process-read.result _ c.process-read.ensures.shown c.in_err-rest.ensures in
    runs_out_beside (then_err g.met.I.Items.lawful closed c.from_residual.ensures)

pub any_items-requires-clause-built : goal.any_items-requires-clause-built
any_items-requires-clause-built g c =
    let begun = c.in-Some in (
      begun.begun,
      refl,
      (
        that_some _ begun.begun.waiting.partial begun.ensures.read,
        begun.ensures.nested,
        λ x. subst (λ f. g.G.Fn.pre f (x, tt)) (sym begun.ensures.fold) (c.requires.fold x),
      ),
    )

pub returns-in_err-end-in-Some-clause-shown : goal.returns-in_err-end-in-Some-clause-shown
returns-in_err-end-in-Some-clause-shown g c =
    let term = g.T.Parser.grammar (g.T.Parser.state c.args.pair.now.1) in
    let binary = g.C.Parser.grammar (g.C.Parser.state c.args.pair.now.0) in
    let errs = g.T.Error.ParseError.errors in
    let closed = closed_shown g.I.Items.model term.IsOutput (modes true g.OM.Error.Mode.BUILDS g.OM.Incomplete.IsStreaming.STREAMING) c.args.input
    term.meaning (λ i. errs.appended i Kind.Precedence) errs.grows c.process-read.result _ c.process-read.ensures.shown c.in_ok-rest.ensures in
    let more = shown_at (λ s. record {
      meaning = items_meaning g.I.Items.model errs (any_limits Kind.Precedence) (Unit {0})
          (operator_and_term_meaning g.I.Items.model binary.meaning (g.T.Parser.grammar s).meaning);
      IsOutput = Accumulated (PairPushes (λ (k : Accumulator g). k.waiting.partial) (λ k. k.waiting.outer.items) (λ k. k.fold.now)
          (λ f o r. g.G.Fn.post f (o, tt) r)) (CanPush g) (λ t o. binary.IsOutput t.0 o.0 × (g.T.Parser.grammar s).IsOutput t.1 o.1) (Some c.in-Some.begun);
    }) c.process-read.ensures.kept c.in_err-end-in-Some.ensures.shown in
    runs_out_beside (then_ok g.met.I.Items.lawful closed (λ t b. output_err more c.from_residual-in_err-end-in-Some.ensures))

pub emitted-requires-in-Some : goal.emitted-requires-in-Some
emitted-requires-in-Some g c = subst IsSome (sym (accepts c.in_ok-end-in-Some.ensures.shown).built_is.1) refl

pub value_of-requires-clause-some : goal.value_of-requires-clause-some
value_of-requires-clause-some g c = (of_built _ _ _ c.emitted-in-Some.ensures (accepts c.in_ok-end-in-Some.ensures.shown).built_is).ready.0

pub value_of-requires-clause-nested : goal.value_of-requires-clause-nested
value_of-requires-clause-nested g c = (of_built _ _ _ c.emitted-in-Some.ensures (accepts c.in_ok-end-in-Some.ensures.shown).built_is).ready.1

pub value_of-requires-clause-fold : goal.value_of-requires-clause-fold
value_of-requires-clause-fold g c = (of_built _ _ _ c.emitted-in-Some.ensures (accepts c.in_ok-end-in-Some.ensures.shown).built_is).ready.2

pub returns-in_ok-end-in-Some-clause-shown : goal.returns-in_ok-end-in-Some-clause-shown
returns-in_ok-end-in-Some-clause-shown g c =
    let term = g.T.Parser.grammar (g.T.Parser.state c.args.pair.now.1) in
    let binary = g.C.Parser.grammar (g.C.Parser.state c.args.pair.now.0) in
    let errs = g.T.Error.ParseError.errors in
    let closed = closed_shown g.I.Items.model term.IsOutput (modes true g.OM.Error.Mode.BUILDS g.OM.Incomplete.IsStreaming.STREAMING) c.args.input
    term.meaning (λ i. errs.appended i Kind.Precedence) errs.grows c.process-read.result _ c.process-read.ensures.shown c.in_ok-rest.ensures in
    let more = shown_at (λ s. record {
      meaning = items_meaning g.I.Items.model errs (any_limits Kind.Precedence) (Unit {0})
          (operator_and_term_meaning g.I.Items.model binary.meaning (g.T.Parser.grammar s).meaning);
      IsOutput = Accumulated (PairPushes (λ (k : Accumulator g). k.waiting.partial) (λ k. k.waiting.outer.items) (λ k. k.fold.now)
          (λ f o r. g.G.Fn.post f (o, tt) r)) (CanPush g) (λ t o. binary.IsOutput t.0 o.0 × (g.T.Parser.grammar s).IsOutput t.1 o.1) (Some c.in-Some.begun);
    }) c.process-read.ensures.kept c.in_ok-end-in-Some.ensures.shown in
    runs_out_beside (then_ok g.met.I.Items.lawful closed (λ t b. output_ok more (λ us k. evaluated_built (λ (z : Accumulator g). z.waiting.partial)
    (λ z. z.waiting.outer.items) (λ z. z.fold.now) (λ f o r. g.G.Fn.post f (o, tt) r) term.IsOutput binary.IsOutput (CanPush g) t us c.args.fold.now _
    c.emitted.result c.in-Some.begun _ _ _ c.emitted.ensures b c.in-Some.ensures.read c.in-Some.ensures.fold c.emitted-in-Some.ensures k c.value_of.ensures)))

pub returns-in-None-clause-shown : goal.returns-in-None-clause-shown
returns-in-None-clause-shown g c =
    let term = g.T.Parser.grammar (g.T.Parser.state c.args.pair.now.1) in
    let errs = g.T.Error.ParseError.errors in
    let closed = closed_shown g.I.Items.model term.IsOutput (modes true g.OM.Error.Mode.BUILDS g.OM.Incomplete.IsStreaming.STREAMING) c.args.input
    term.meaning (λ i. errs.appended i Kind.Precedence) errs.grows c.process-read.result _ c.process-read.ensures.shown c.in_ok-rest.ensures in
    let a = accepts closed in
    RanOut refl (inr (closed_lacks (λ i. errs.appended i Kind.Precedence) errs.grows (PrefixesWait term.IsOutput) term.meaning a
    (term_waits term.IsOutput a.tree _ c.emitted.result c.emitted.ensures a.built_is (c.in-None.ensures.full refl))))
