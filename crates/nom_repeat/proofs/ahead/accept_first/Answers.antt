use Rattle.nom_internal.proofs.Shown.{accepts}
use Rattle.nom_repeat.proofs.CertainShown.{certain_given, certain_moves}
use Rattle.nom_repeat.proofs.ItemsShown.{first_asks}
use Rattle.nom_repeat.proofs.ahead.accept_first.Goals as goal

pub returns-in-Ok-clause-lacks : goal.returns-in-Ok-clause-lacks
returns-in-Ok-clause-lacks g c = λ b below.
    let item = accepts c.in-Ok.ensures.shown in
    first_asks g.met.I.Items.lawful g.F.Error.ParseError.errors b (g.F.Parser.grammar (g.F.Parser.state c.args.parser.now)).meaning c.known.ensures below
    c.requires.built (certain_moves c.requires.certain item.answered) item.answered

pub unreachable-requires : goal.unreachable-requires
unreachable-requires g c = certain_given c.requires.certain c.in-Err.ensures.shown
