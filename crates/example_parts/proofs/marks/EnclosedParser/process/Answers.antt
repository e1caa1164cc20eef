use Rattle.nom_internal.proofs.Shown.{then_err, then_ok, output_err, output_ok}
use Rattle.example_parts.proofs.marks.EnclosedParser.process.Goals as goal

-- the mark refuses
pub returns-in_err-rest-clause-shown : goal.returns-in_err-rest-clause-shown
returns-in_err-rest-clause-shown g c = then_err g.met.I.Items.lawful c.in_err-rest.ensures.shown c.from_residual.ensures

-- the parser refuses
pub returns-in_err-rest-2-clause-shown : goal.returns-in_err-rest-2-clause-shown
returns-in_err-rest-2-clause-shown g c =
    then_ok g.met.I.Items.lawful c.in_ok-rest.ensures.shown
    (λ u b. then_err g.met.I.Items.lawful c.in_err-rest-2.ensures.shown c.from_residual-in_err-rest-2.ensures)

-- the second mark refuses; it is the first one, since a call leaves a parser's state as it was
pub returns-in_err-rest-3-clause-shown : goal.returns-in_err-rest-3-clause-shown
returns-in_err-rest-3-clause-shown g c =
    let mark = rw c.in_ok-rest.ensures.kept at c.in_err-rest-3.ensures.shown in
    then_ok g.met.I.Items.lawful c.in_ok-rest.ensures.shown
    (λ u b. then_ok g.met.I.Items.lawful c.in_ok-rest-2.ensures.shown (λ v d. output_err mark c.from_residual-in_err-rest-3.ensures))

pub returns-clause-shown : goal.returns-clause-shown
returns-clause-shown g c =
    let mark = rw c.in_ok-rest.ensures.kept at c.in_ok-rest-3.ensures.shown in
    then_ok g.met.I.Items.lawful c.in_ok-rest.ensures.shown
    (λ u b. then_ok g.met.I.Items.lawful c.in_ok-rest-2.ensures.shown (λ v d. output_ok mark (λ x e. d)))
