use Rattle.nom_internal.proofs.Completed.{completes}
use Rattle.nom_internal.proofs.promises.answers_complete.Goals as goal

pub returns : goal.returns
returns g c x r s known h t =
    let p = g.P.Parser.state c.args._parser.now in
    completes g.I.Items.model g.met.I.Items.lawful g.P.Output.Viewed.view (g.P.StreamParser.Pins c.args._parser.now) (g.P.Parser.grammar p).IsOutput
    (g.met.P.StreamParser.pinned c.args._parser.now c.requires.sound) (g.P.Parser.grammar p).meaning
    (g.met.P.Parser.lawful p c.requires.sound) c.requires.settles x known r s h t
