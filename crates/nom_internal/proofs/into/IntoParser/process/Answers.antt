use Rattle.nom_internal.proofs.Maps.{into_shown}
use Rattle.nom_internal.proofs.into.IntoParser.process.Goals as goal

pub returns-clause-shown : goal.returns-clause-shown
returns-clause-shown g c = into_shown _ _ _ _ (g.F.Parser.grammar _).meaning _ _ _ _ c.process.ensures.shown c.converted_answer.ensures
