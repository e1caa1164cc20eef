use Rattle.std.proofs.Common.{refl}
use Rattle.nom.proofs.Shown.{then_err, output_err}
use Rattle.nom_precedence.proofs.ReadShown.{first_stuck, first_whole, stuck_after, told_ok, whole_after}
use Rattle.nom_precedence.proofs.TermShown.{term_built}
use Rattle.nom_precedence.proofs.term.term.Goals as goal

pub returns-in_err-rest-clause-shown : goal.returns-in_err-rest-clause-shown
returns-in_err-rest-clause-shown g c = then_err g.met.I.Items.lawful c.in_err-rest.ensures.shown c.from_residual.ensures

pub returns-in-Stuck-clause-shown : goal.returns-in-Stuck-clause-shown
returns-in-Stuck-clause-shown g c = first_stuck g.met.I.Items.lawful (refl, refl) (told_ok c.emitted.ensures c.in-Stuck.is c.in_ok-rest.ensures.shown)

pub returns-in_err-end-in-Whole-clause-shown : goal.returns-in_err-end-in-Whole-clause-shown
returns-in_err-end-in-Whole-clause-shown g c = first_whole g.met.I.Items.lawful (told_ok c.emitted.ensures c.in-Whole.is c.in_ok-rest.ensures.shown)
    (λ ps b. output_err c.in_err-end-in-Whole.ensures.shown c.from_residual-in_err-end-in-Whole.ensures)

pub returns-in-Stuck-emitted-clause-shown : goal.returns-in-Stuck-emitted-clause-shown
returns-in-Stuck-emitted-clause-shown g c = first_whole g.met.I.Items.lawful (told_ok c.emitted.ensures c.in-Whole.is c.in_ok-rest.ensures.shown)
    (λ ps b. stuck_after (told_ok c.emitted-in-Whole.ensures c.in-Stuck-emitted.is c.in_ok-end-in-Whole.ensures.shown))

pub returns-in-Whole-emitted-clause-shown : goal.returns-in-Whole-emitted-clause-shown
returns-in-Whole-emitted-clause-shown g c = first_whole g.met.I.Items.lawful (told_ok c.emitted.ensures c.in-Whole.is c.in_ok-rest.ensures.shown)
    (λ ps b. whole_after (λ t k. term_built _ _ _ _ _ _ _ _ _ _ _ _ _ _ c.no_prefixes-none.ensures.empty b k c.finished.ensures)
    (told_ok c.emitted-in-Whole.ensures c.in-Whole-emitted.is c.in_ok-end-in-Whole.ensures.shown))
