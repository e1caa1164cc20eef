use Rattle.std.proofs.Common.{◌≡◌, ap}
use Rattle.nom_combinator.specs.Verdicts.{not_meaning}
use Rattle.nom_error.specs.declared.kind.ErrorKind.TheVariants as Kind
use Rattle.nom_internal.proofs.Shown.{then_err, then_ok, output_err, output_ok}
use Rattle.nom_repeat.proofs.Parts.{shown_at}
use Rattle.nom_language.proofs.operands.RequireOperandsParser.process.Goals as goal

pub returns-in_err-rest-clause-shown : goal.returns-in_err-rest-clause-shown
returns-in_err-rest-clause-shown g c = then_err g.met.I.Items.lawful c.in_err-rest.ensures.shown c.from_residual.ensures

pub returns-in_err-end-clause-shown : goal.returns-in_err-end-clause-shown
returns-in_err-end-clause-shown g c =
    let errs = g.T.Error.ParseError.errors in
    let more = shown_at (λ s. record {
      meaning = not_meaning (λ i. errs.of_kind i Kind.Precedence) errs.grows (g.C.Parser.grammar s).meaning;
      IsOutput = λ (t : Unit {0}) o. o ≡ t;
    }) (ap (λ s. s.0) c.in_ok-rest.ensures.kept) c.in_err-end.ensures.shown in
    then_ok g.met.I.Items.lawful c.in_ok-rest.ensures.shown (λ t b. output_err more c.from_residual-in_err-end.ensures)

pub returns-clause-shown : goal.returns-clause-shown
returns-clause-shown g c =
    let errs = g.T.Error.ParseError.errors in
    let more = shown_at (λ s. record {
      meaning = not_meaning (λ i. errs.of_kind i Kind.Precedence) errs.grows (g.C.Parser.grammar s).meaning;
      IsOutput = λ (t : Unit {0}) o. o ≡ t;
    }) (ap (λ s. s.0) c.in_ok-rest.ensures.kept) c.in_ok-end.ensures.shown in
    then_ok g.met.I.Items.lawful c.in_ok-rest.ensures.shown (λ t b. output_ok more (λ u k. b))
