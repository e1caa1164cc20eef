use Rattle.std.proofs.Common.{◌≡◌}
use Rattle.nom.proofs.PiecesGrow.{escaped_transform_grow}
use Rattle.nom.proofs.growths.escaped_transform_grows_by_pieces.Goals as goal

pub returns : goal.returns
returns g c =
    let s = g.F.Parser.state c.args._parser.now.normal in
    let t = g.G.Parser.state c.args._parser.now.transform in
    let is_control : _ → Type 0 = λ x. g.C.Value.code x ≡ c.args._parser.now.control_char in
    escaped_transform_grow g.I.Items.model g.met.I.Items.lawful is_control g.F.Error.ParseError.errors (g.F.Parser.grammar s).meaning
    (g.G.Parser.grammar t).meaning
    (g.met.F.Parser.lawful s c.requires.normal) (g.met.G.Parser.lawful t c.requires.transform)
