use Rattle.std.proofs.Common.{refl}
use Rattle.nom_repeat.proofs.Accumulating.{kept_none}
use Rattle.nom_repeat.proofs.Repeated.{collected_none}
use Rattle.nom_repeat.proofs.ahead.items_ahead.Goals as goal

pub returns-then-count-eq0-clause-collected : goal.returns-then-count-eq0-clause-collected
returns-then-count-eq0-clause-collected g c = λ b h. collected_none g.met.I.Items.lawful c.known.ensures
    (kept_none g.K.Accumulator.Pushes g.K.Accumulator.CanPush (g.F.Parser.grammar (g.F.Parser.state c.args.parser.now)).IsOutput _ _ c.requires.built, refl)
