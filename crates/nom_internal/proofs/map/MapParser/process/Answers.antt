use Rattle.nom_internal.proofs.Shown.{err_from_residual}
use Rattle.nom_internal.proofs.Maps.{map_err, map_some, map_none}
use Rattle.nom_internal.proofs.map.MapParser.process.Goals as goal

pub returns-in_err-rest-clause-shown : goal.returns-in_err-rest-clause-shown
returns-in_err-rest-clause-shown g c = map_err (g.F.Parser.grammar _).meaning c.requires.runs.1 c.in_err-rest.ensures.shown
    (err_from_residual c.from_residual.ensures)

pub returns-in-Some-clause-shown : goal.returns-in-Some-clause-shown
returns-in-Some-clause-shown g c = map_some (g.F.Parser.grammar _).meaning c.requires.runs.1 c.in-Some.is c.map.ensures c.in_ok-rest.ensures.shown

pub returns-in-None-clause-shown : goal.returns-in-None-clause-shown
returns-in-None-clause-shown g c = map_none (g.F.Parser.grammar _).meaning c.requires.runs.1 c.in-None.is c.in_ok-rest.ensures.shown
