use Rattle.std.specs.Prelude.{refl}
use Rattle.nom_internal.proofs.Shown.{accepted}
use Rattle.nom_combinator.specs.Ends.{all_of}
use Rattle.nom_combinator.proofs.WholeLeft.{whole_built}
use Rattle.nom_combinator.proofs.left.RestParser.process.Goals as goal

pub returns-clause-shown : goal.returns-clause-shown
returns-clause-shown g c = accepted (all_of g.I.Items.model c.args.input) c.take_from.ensures (c.input_len.ensures, refl)
    (whole_built g.I.Items.model g.OM.Output.Mode.BUILDS c.args.input c.built.result c.known.ensures c.built.ensures)
