use Rattle.std.specs.Prelude.{refl}
use Rattle.std.proofs.Common.{ap}
use Rattle.nom_error.specs.declared.kind.ErrorKind.TheVariants as Kind
use Rattle.nom_internal.specs.Prelude.{rest_of}
use Rattle.nom_internal.specs.Results.JudgedSideCondition.{Kept, Dropped}
use Rattle.nom_internal.proofs.Shown.{err_from_residual}
use Rattle.nom_internal.proofs.Judges.{judged_err, judged_fit, judged_unfit, kept_given}
use Rattle.nom_internal.proofs.judged.MapOptParser.process.Goals as goal

pub returns-in_err-rest-clause-shown : goal.returns-in_err-rest-clause-shown
returns-in_err-rest-clause-shown g c =
    judged_err (λ i _. g.F.Error.ParseError.errors.of_kind i Kind.MapOpt)
    (g.F.Parser.grammar _).meaning c.requires.runs.1 c.in_err-rest.ensures.shown (err_from_residual c.from_residual.ensures)

pub returns-in-Some-map-clause-shown : goal.returns-in-Some-map-clause-shown
returns-in-Some-map-clause-shown g c =
    judged_fit (λ i _. g.F.Error.ParseError.errors.of_kind i Kind.MapOpt) (g.F.Parser.grammar _).meaning c.requires.runs.1 c.in-Some.is c.in-Some-map.ensures
    refl c.in_ok-rest.ensures.shown (kept_given _ _ _ _ _ _ c.in-Some-map.ensures c.built.ensures)

pub returns-in-None-map-clause-shown : goal.returns-in-None-map-clause-shown
returns-in-None-map-clause-shown g c =
    judged_unfit (λ i _. g.F.Error.ParseError.errors.of_kind i Kind.MapOpt) (g.F.Parser.grammar _).meaning c.requires.runs.1 c.in-Some.is c.in-None-map.ensures
    refl c.in_ok-rest.ensures.shown c.refusal.ensures

pub returns-in_err-rest-clause-side_condition : goal.returns-in_err-rest-clause-side_condition
returns-in_err-rest-clause-side_condition g c = Kept (rw (ap rest_of (err_from_residual c.from_residual.ensures)) c.in_err-rest.ensures.side_condition)

pub returns-in-Some-map-clause-side_condition : goal.returns-in-Some-map-clause-side_condition
returns-in-Some-map-clause-side_condition g c = Kept c.in_ok-rest.ensures.side_condition

pub returns-in-None-map-clause-side_condition : goal.returns-in-None-map-clause-side_condition
returns-in-None-map-clause-side_condition g c = Dropped _ c.in_ok-rest.ensures.side_condition refl
