use Rattle.nom_multi.proofs.Until.{many_till_accepts_until}
use Rattle.nom_multi.proofs.promises.many_till_accepts.Goals as goal

pub returns : goal.returns
returns g c = many_till_accepts_until _ g.F.Error.ParseError.errors (g.F.Parser.grammar (g.F.Parser.state c.args._parser.now.parser)).meaning
    (g.G.Parser.grammar (g.G.Parser.state c.args._parser.now.end)).meaning
