use Rattle.nom_combinator.proofs.Promised.{consumed_gives}
use Rattle.nom_combinator.proofs.promises.consumed_gives_front.Goals as goal

pub returns : goal.returns
returns g c = consumed_gives _ g.met.I.Items.lawful (g.F.Parser.grammar (g.F.Parser.state c.args._parser.now.parser)).IsOutput
    (g.F.Parser.grammar (g.F.Parser.state c.args._parser.now.parser)).meaning
