use Rattle.std.specs.Prelude.{refl}
use Rattle.std.proofs.Common.{sym, ◌∙◌}
use Rattle.nom_internal.proofs.Consumed.{rest_self}
use Rattle.nom_internal.proofs.Shown.{accepted, refused}
use Rattle.nom_combinator.specs.Ends.{all_of}
use Rattle.nom_combinator.proofs.Rests.{no_items, no_length}
use Rattle.nom_combinator.proofs.WholeLeft.{whole_built}
use Rattle.nom_combinator.proofs.left.EofParser.process.Goals as goal

pub returns-then-input_len-eq0-clause-shown : goal.returns-then-input_len-eq0-clause-shown
returns-then-input_len-eq0-clause-shown g c =
    let w = g.I.Items.model in
    let none = no_length w.item_len g.met.I.Items.lawful.positive (w.elements c.args.input) (sym c.input_len.ensures ∙ c.if-input_len-eq0.true) in
    accepted (all_of w c.args.input) (rest_self w g.met.I.Items.lawful c.args.input c.known.ensures) (none, refl, refl)
    (whole_built w g.OM.Output.Mode.BUILDS c.args.input c.built.result c.known.ensures c.built.ensures)

pub returns-else-input_len-eq0-clause-shown : goal.returns-else-input_len-eq0-clause-shown
returns-else-input_len-eq0-clause-shown g c =
    let w = g.I.Items.model in
    refused c.refusal.ensures (λ none. c.if-input_len-eq0.false (c.input_len.ensures ∙ no_items w none))
