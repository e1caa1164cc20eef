use Rattle.nom_multi.specs.Lengths.{HasSize}
use Rattle.nom_multi.proofs.LengthAccepting.{length_count_accepts_items}
use Rattle.nom_multi.proofs.length_promises.length_count_accepts.Goals as goal

pub returns : goal.returns
returns g c = length_count_accepts_items _ g.F.Error.ParseError.errors
    (HasSize (g.F.Parser.grammar (g.F.Parser.state c.args._parser.now.length)).IsOutput g.F.Output.ToUsize.size)
    (g.F.Parser.grammar (g.F.Parser.state c.args._parser.now.length)).meaning (g.G.Parser.grammar (g.G.Parser.state c.args._parser.now.parser)).meaning
