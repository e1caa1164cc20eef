use Rattle.std.specs.Prelude.{refl}
use Rattle.nom_internal.proofs.Consumed.{rest_self}
use Rattle.nom_internal.proofs.Shown.{accepted}
use Rattle.nom_combinator.proofs.left.RestLenParser.process.Goals as goal

pub returns-clause-shown : goal.returns-clause-shown
returns-clause-shown g c = accepted c.input_len.result (rest_self g.I.Items.model g.met.I.Items.lawful c.args.input c.known.ensures)
    (refl, c.input_len.ensures) c.built.ensures
