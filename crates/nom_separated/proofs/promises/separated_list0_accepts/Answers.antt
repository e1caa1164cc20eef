use Rattle.nom_separated.proofs.SeparatedAccepting.{separated0_accepts_more}
use Rattle.nom_separated.proofs.promises.separated_list0_accepts.Goals as goal

pub returns : goal.returns
returns g c = separated0_accepts_more _ g.F.Error.ParseError.errors (g.G.Parser.grammar (g.G.Parser.state c.args._parser.now.next.first)).meaning
    (g.F.Parser.grammar (g.F.Parser.state c.args._parser.now.next.second)).meaning g.met.I.Items.lawful
