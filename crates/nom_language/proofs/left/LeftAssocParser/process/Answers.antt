use Rattle.std.proofs.Common.{◌≡◌, Some, subst, sym, refl}
use Rattle.std.specs.Prelude.{IsSome}
use Rattle.nom_error.specs.declared.kind.ErrorKind.TheVariants as Kind
use Rattle.nom_internal.proofs.Shown.{accepts, then_err, then_ok, output_err, output_ok}
use Rattle.nom_repeat.proofs.Parts.{shown_at}
use Rattle.nom_repeat.specs.Accumulated.{Accumulated}
use Rattle.nom_repeat.specs.Bounds.{any_limits}
use Rattle.nom_repeat.specs.Items.{items_meaning}
use Rattle.nom_language.specs.helpers.Accumulated.{LeftPushes}
use Rattle.nom_language.specs.Precedences.{operator_and_term_meaning}
use Rattle.nom_language.proofs.LeftShown.{given_built, left_built}
use Rattle.nom_language.proofs.left.LeftAssocParser.process.Goals as goal

pub returns-in_err-rest-clause-shown : goal.returns-in_err-rest-clause-shown
returns-in_err-rest-clause-shown g c = then_err g.met.I.Items.lawful c.in_err-rest.ensures.shown c.from_residual.ensures

pub any_items-requires-clause-built : goal.any_items-requires-clause-built
any_items-requires-clause-built g c =
    let first = accepts c.in_ok-rest.ensures.shown in
    given_built g.OM.Output.Mode.BUILDS _ (λ x k. (k.value ≡ Some x) × (k.builder.now ≡ c.args.self.now.builder)) _ _ _
    (λ x k p q. (subst IsSome (sym q.0) refl, λ a h b. subst (λ f. g.G.Fn.pre f (a, (h, (b, tt)))) (sym q.1) (c.requires.runs.2 a h b)))
    c.begun-begun.ensures first.built_is

pub returns-in_err-end-clause-shown : goal.returns-in_err-end-clause-shown
returns-in_err-end-clause-shown g c =
    let self = c.args.self.now in
    let binary = g.C.Parser.grammar (g.C.Parser.state self.pair.0) in
    let more = shown_at (λ s. record {
      meaning = items_meaning g.I.Items.model g.F.Error.ParseError.errors (any_limits Kind.SeparatedList) ⊥
          (operator_and_term_meaning g.I.Items.model binary.meaning (g.F.Parser.grammar s).meaning);
      IsOutput = Accumulated (LeftPushes (λ k. k.value) (λ k. k.builder.now) (λ f a h b z. g.G.Fn.post f (a, (h, (b, tt))) z))
          (λ k. IsSome k.value
          × ((x : g.row.F-Output.Denot) (h : g.row.C-Output.Denot) (y : g.row.F-Output.Denot) → g.G.Fn.pre k.builder.now (x, (h, (y, tt)))))
          (λ t o. binary.IsOutput t.0 o.0 × (g.F.Parser.grammar s).IsOutput t.1 o.1) c.begun-begun.result;
    }) c.in_ok-rest.ensures.kept c.in_err-end.ensures.shown in
    then_ok g.met.I.Items.lawful c.in_ok-rest.ensures.shown (λ t b. output_err more c.from_residual-in_err-end.ensures)

pub returns-clause-shown : goal.returns-clause-shown
returns-clause-shown g c =
    let self = c.args.self.now in
    let binary = g.C.Parser.grammar (g.C.Parser.state self.pair.0) in
    let item = g.F.Parser.grammar (g.F.Parser.state self.pair.1) in
    let more = shown_at (λ s. record {
      meaning = items_meaning g.I.Items.model g.F.Error.ParseError.errors (any_limits Kind.SeparatedList) ⊥
          (operator_and_term_meaning g.I.Items.model binary.meaning (g.F.Parser.grammar s).meaning);
      IsOutput = Accumulated (LeftPushes (λ k. k.value) (λ k. k.builder.now) (λ f a h b z. g.G.Fn.post f (a, (h, (b, tt))) z))
          (λ k. IsSome k.value
          × ((x : g.row.F-Output.Denot) (h : g.row.C-Output.Denot) (y : g.row.F-Output.Denot) → g.G.Fn.pre k.builder.now (x, (h, (y, tt)))))
          (λ t o. binary.IsOutput t.0 o.0 × (g.F.Parser.grammar s).IsOutput t.1 o.1) c.begun-begun.result;
    }) c.in_ok-rest.ensures.kept c.in_ok-end.ensures.shown in
    then_ok g.met.I.Items.lawful c.in_ok-rest.ensures.shown (λ t b. output_ok more (λ us k. left_built (λ k. k.value) (λ k. k.builder.now)
    (λ f a h b z. g.G.Fn.post f (a, (h, (b, tt))) z) item.IsOutput binary.IsOutput _ g.OM.Output.Mode.BUILDS t us self.builder _ _ _ _
    c.begun-begun.ensures c.value_of.ensures b k))
