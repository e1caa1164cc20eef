use Rattle.std.proofs.Common.{true}
use Rattle.nom.proofs.Choices.{built_fact}
use Rattle.nom.proofs.Shown.{then_err, then_ok, output_err}
use Rattle.nom_precedence.proofs.ReadShown.{built_from, stuck_after, told_ok, whole_after}
use Rattle.nom_precedence.proofs.pairs.pair.Goals as goal

pub returns-in_err-rest-clause-shown : goal.returns-in_err-rest-clause-shown
returns-in_err-rest-clause-shown g c = then_err g.met.I.Items.lawful c.in_err-rest.ensures.shown c.from_residual.ensures

pub returns-in_err-end-clause-shown : goal.returns-in_err-end-clause-shown
returns-in_err-end-clause-shown g c =
    then_ok g.met.I.Items.lawful c.in_ok-rest.ensures.shown (λ o b. output_err c.in_err-end.ensures.shown c.from_residual-in_err-end.ensures)

pub returns-in-Stuck-clause-shown : goal.returns-in-Stuck-clause-shown
returns-in-Stuck-clause-shown g c = then_ok g.met.I.Items.lawful c.in_ok-rest.ensures.shown
    (λ o b. stuck_after (told_ok c.emitted.ensures c.in-Stuck.is c.in_ok-end.ensures.shown))

pub returns-in-Whole-clause-shown : goal.returns-in-Whole-clause-shown
returns-in-Whole-clause-shown g c = then_ok g.met.I.Items.lawful c.in_ok-rest.ensures.shown
    (λ o b. whole_after (λ t k. built_from g.OM.Output.Mode.BUILDS _ (λ x p _ h e. rw e (built_fact true _ _ _ b c.emitted-own.ensures, h)) k c.both.ensures)
    (told_ok c.emitted.ensures c.in-Whole.is c.in_ok-end.ensures.shown))
