use Rattle.std.specs.Prelude.{refl}
use Rattle.nom_internal.proofs.Consumed.{rest_self}
use Rattle.nom_internal.proofs.Shown.{accepted}
use Rattle.nom_combinator.proofs.fixed.SuccessParser.process.Goals as goal

pub returns-in-Ok-clause-shown : goal.returns-in-Ok-clause-shown
returns-in-Ok-clause-shown g c =
    accepted c.args.self.now.value (rest_self g.I.Items.model g.met.I.Items.lawful c.args.input c.known.ensures) (refl, refl) c.in-Ok.ensures
