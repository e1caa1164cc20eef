use Rattle.nom_combinator.proofs.Promised.{recognize_gives}
use Rattle.nom_combinator.proofs.promises.recognize_gives_front.Goals as goal

pub returns : goal.returns
returns g c = recognize_gives _ g.met.I.Items.lawful (g.F.Parser.grammar (g.F.Parser.state c.args._parser.now.parser)).meaning
