use Rattle.std.specs.Prelude.{refl, true, false}
use Rattle.std.proofs.Common.{subst}
use Rattle.nom_error.specs.declared.kind.ErrorKind.TheVariants as Kind
use Rattle.nom_internal.proofs.Shown.{err_from_residual}
use Rattle.nom_internal.proofs.Judges.{judged_err, judged_fit, judged_unfit, kept_output}
use Rattle.nom_internal.specs.Closures.{GivesAt}
use Rattle.nom_internal.specs.Results.JudgedSideCondition.{Dropped}
use Rattle.nom_combinator.proofs.outputs.VerifyParser.process.Goals as goal

pub returns-in_err-rest-clause-shown : goal.returns-in_err-rest-clause-shown
returns-in_err-rest-clause-shown g c =
    judged_err (λ i _. g.F.Error.ParseError.errors.of_kind i Kind.Verify)
    (g.F.Parser.grammar _).meaning c.requires.runs.1 c.in_err-rest.ensures.shown (err_from_residual c.from_residual.ensures)

pub returns-then-fits-clause-shown : goal.returns-then-fits-clause-shown
returns-then-fits-clause-shown g c =
    let says = subst (GivesAt (λ p. g.G.Fn.post c.args.self.now.test (p, tt)) _) c.if-fits.true c.passes-fits.ensures in
    judged_fit (λ i _. g.F.Error.ParseError.errors.of_kind i Kind.Verify) (g.F.Parser.grammar _).meaning
    {r = true} c.requires.runs.1 c.in-Some.is says refl c.in_ok-rest.ensures.shown (kept_output _ _ _ _ _ says c.built.ensures)

pub returns-else-fits-clause-shown : goal.returns-else-fits-clause-shown
returns-else-fits-clause-shown g c =
    let says = subst (GivesAt (λ p. g.G.Fn.post c.args.self.now.test (p, tt)) _) c.if-fits.false c.passes-fits.ensures in
    judged_unfit (λ i _. g.F.Error.ParseError.errors.of_kind i Kind.Verify) (g.F.Parser.grammar _).meaning
    {r = false} c.requires.runs.1 c.in-Some.is says refl c.in_ok-rest.ensures.shown c.refusal.ensures

pub returns-else-fits-clause-side_condition : goal.returns-else-fits-clause-side_condition
returns-else-fits-clause-side_condition g c = Dropped _ c.in_ok-rest.ensures.side_condition refl
