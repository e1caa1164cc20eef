use Rattle.std.proofs.Common.{refl, sym, subst}
use Rattle.std.specs.Prelude.{IsSome}
use Rattle.nom.proofs.Shown.{accepts, then_err, then_ok, output_err}
use Rattle.nom_precedence.proofs.ReadShown.{built_from, stuck_after, told_ok, whole_after}
use Rattle.nom_precedence.proofs.TermShown.{tail_built}
use Rattle.nom_precedence.proofs.term.tail.Goals as goal

pub returns-in_err-rest-clause-shown : goal.returns-in_err-rest-clause-shown
returns-in_err-rest-clause-shown g c = then_err g.met.I.Items.lawful c.in_err-rest.ensures.shown c.from_residual.ensures

pub affixes-requires-clause-before : goal.affixes-requires-clause-before
affixes-requires-clause-before g c = built_from g.OM.Output.Mode.BUILDS _
    (λ a k _ _ h. (subst IsSome (sym h.0) refl, λ o. subst (λ f. g.G.Fn.pre f (o, tt)) (sym h.1) (c.requires.fold o)))
    (accepts c.in_ok-rest.ensures.shown).built_is c.held-first.ensures

pub returns-in_err-end-clause-shown : goal.returns-in_err-end-clause-shown
returns-in_err-end-clause-shown g c =
    then_ok g.met.I.Items.lawful c.in_ok-rest.ensures.shown (λ v b. output_err c.in_err-end.ensures.shown c.from_residual-in_err-end.ensures)

pub returns-in-Stuck-clause-shown : goal.returns-in-Stuck-clause-shown
returns-in-Stuck-clause-shown g c = then_ok g.met.I.Items.lawful c.in_ok-rest.ensures.shown
    (λ v b. stuck_after (told_ok c.emitted.ensures c.in-Stuck.is c.in_ok-end.ensures.shown))

pub returns-in-Whole-clause-shown : goal.returns-in-Whole-clause-shown
returns-in-Whole-clause-shown g c = then_ok g.met.I.Items.lawful c.in_ok-rest.ensures.shown
    (λ v b. whole_after (λ u k. tail_built _ _ _ _ _ _ _ _ _ _ _ _ _ _ c.held-first.ensures c.value_of.ensures b k)
    (told_ok c.emitted.ensures c.in-Whole.is c.in_ok-end.ensures.shown))
