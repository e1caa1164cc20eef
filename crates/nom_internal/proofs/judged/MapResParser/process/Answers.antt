use Rattle.std.specs.Prelude.{refl}
use Rattle.std.proofs.Common.{ap}
use Rattle.nom_error.specs.declared.kind.ErrorKind.TheVariants as Kind
use Rattle.nom_internal.specs.Prelude.{OfError, rest_of}
use Rattle.nom_internal.specs.Results.JudgedSideCondition.{Kept, Dropped}
use Rattle.nom_internal.proofs.Shown.{err_from_residual}
use Rattle.nom_internal.proofs.Judges.{judged_err, judged_fit, judged_unfit, kept_given}
use Rattle.nom_internal.proofs.judged.MapResParser.process.Goals as goal

pub returns-in_err-rest-clause-shown : goal.returns-in_err-rest-clause-shown
returns-in_err-rest-clause-shown g c =
    judged_err (λ i. OfError (g.F.Error.FromExternalError.externals.of_external i Kind.MapRes))
    (g.F.Parser.grammar _).meaning c.requires.runs.1 c.in_err-rest.ensures.shown (err_from_residual c.from_residual.ensures)

pub returns-in-Ok-clause-shown : goal.returns-in-Ok-clause-shown
returns-in-Ok-clause-shown g c =
    judged_fit (λ i. OfError (g.F.Error.FromExternalError.externals.of_external i Kind.MapRes))
    (g.F.Parser.grammar _).meaning c.requires.runs.1 c.in-Some.is c.in-Ok.ensures refl c.in_ok-rest.ensures.shown
    (kept_given _ _ _ _ _ _ c.in-Ok.ensures c.built.ensures)

pub returns-in-Err-clause-shown : goal.returns-in-Err-clause-shown
returns-in-Err-clause-shown g c =
    judged_unfit (λ i. OfError (g.F.Error.FromExternalError.externals.of_external i Kind.MapRes))
    (g.F.Parser.grammar _).meaning c.requires.runs.1 c.in-Some.is c.in-Err.ensures refl c.in_ok-rest.ensures.shown c.outside_refusal.ensures

pub returns-in_err-rest-clause-side_condition : goal.returns-in_err-rest-clause-side_condition
returns-in_err-rest-clause-side_condition g c = Kept (rw (ap rest_of (err_from_residual c.from_residual.ensures)) c.in_err-rest.ensures.side_condition)

pub returns-in-Ok-clause-side_condition : goal.returns-in-Ok-clause-side_condition
returns-in-Ok-clause-side_condition g c = Kept c.in_ok-rest.ensures.side_condition

pub returns-in-Err-clause-side_condition : goal.returns-in-Err-clause-side_condition
returns-in-Err-clause-side_condition g c = Dropped _ c.in_ok-rest.ensures.side_condition refl
