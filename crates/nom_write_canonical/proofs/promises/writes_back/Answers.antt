use Rattle.nom_write_canonical.proofs.Back.{writes_back}
use Rattle.nom_write_canonical.proofs.promises.writes_back.Goals as goal

pub returns : goal.returns
returns g c s i j v xs known parsed values form =
    let parser = c.args._parser.now in
    writes_back g.I.Items.model g.I.Item.Value.IsValue g.met.I.Items.lawful (g.P.Parser.grammar (g.P.Parser.state parser)) (g.P.Writer.Form parser)
    g.met.I.Items.values (g.met.P.Canonical.accepts_forms parser c.requires.canonical) (g.met.P.Canonical.one_form parser c.requires.canonical) s i j v xs
    known parsed values form
