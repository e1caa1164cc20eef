use Rattle.std.proofs.Common.{◌≤◌, arith, refl, reverse, subst}
use Rattle.nom_json_run.specs.Walk.{FinishesText, Stepped}
use Rattle.nom_json_run.proofs.Alike.{before, both}
use Rattle.nom_json_run.proofs.check.verdict.Goals as goal

pub steps-preserved : goal.steps-preserved
steps-preserved g c =
    let bytes = c.args.bytes.now in
    let at = c.steps.at in
    let stop = c.in-Go.stop in
    let went = subst (Stepped bytes (FinishesText c.steps.awaits (reverse c.steps.open.items)) at (reverse c.step.new.open.items)) c.in-Go.is
    c.in_ok-stop.ensures in
    let le : at ≤ stop = omega (arith, went.0) in
    record { within = went.1; same = λ bs s. both (c.steps.invariant.same bs (before bytes bs at stop le s)) (went.2 bs s) }

pub returns-in-Stop : goal.returns-in-Stop
returns-in-Stop g c =
    let bytes = c.args.bytes.now in
    let at = c.steps.at in
    let fault = c.in-Stop.fault in
    let stopped = subst (Stepped bytes (FinishesText c.steps.awaits (reverse c.steps.open.items)) at (reverse c.step.new.open.items)) c.in-Stop.is
    c.in_ok-stop.ensures in
    record {
      within = stopped.within;
      part = stopped.part;
      here = λ v. stopped.here ((c.steps.invariant.same bytes refl).0 v);
      fails = λ bs s m v. stopped.fails bs s m ((c.steps.invariant.same bs (before bytes bs at fault.at stopped.begins s)).0 v);
    }
