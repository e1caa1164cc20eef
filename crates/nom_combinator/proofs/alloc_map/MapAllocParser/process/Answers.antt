use Rattle.std.proofs.Common.{refl}
use Rattle.nom_internal.specs.Results.JudgedSideCondition.{Dropped}
use Rattle.nom_internal.proofs.Shown.{err_from_residual}
use Rattle.nom_combinator.proofs.MapsAlloc.{map_err, map_some, map_none, map_ran_out}
use Rattle.nom_combinator.proofs.alloc_map.MapAllocParser.process.Goals as goal

pub returns-in_err-rest-clause-shown : goal.returns-in_err-rest-clause-shown
returns-in_err-rest-clause-shown g c =
    map_err (λ p. g.G.Fn.post c.args.self.now.map (p, tt)) (g.F.Parser.grammar _).meaning c.requires.runs.1 c.in_err-rest.ensures.shown
    (err_from_residual c.from_residual.ensures)

pub returns-in-Ok-clause-shown : goal.returns-in-Ok-clause-shown
returns-in-Ok-clause-shown g c =
    map_some (λ p. g.G.Fn.post c.args.self.now.map (p, tt)) (g.F.Parser.grammar _).meaning c.requires.runs.1 c.in-Some.is c.in-Ok.is c.map.ensures
    c.in_ok-rest.ensures.shown

pub returns-in-Err-clause-shown : goal.returns-in-Err-clause-shown
returns-in-Err-clause-shown g c =
    map_ran_out (λ p. g.G.Fn.post c.args.self.now.map (p, tt))
    (g.F.Parser.grammar _).meaning c.requires.runs.1 c.in-Some.is c.in-Err.is c.map.ensures c.in_ok-rest.ensures.shown

pub returns-in-None-clause-shown : goal.returns-in-None-clause-shown
returns-in-None-clause-shown g c =
    map_none (λ p. g.G.Fn.post c.args.self.now.map (p, tt)) (g.F.Parser.grammar _).meaning c.requires.runs.1 c.in-None.is c.in_ok-rest.ensures.shown

pub returns-in-Err-clause-side_condition : goal.returns-in-Err-clause-side_condition
returns-in-Err-clause-side_condition g c = Dropped _ c.in_ok-rest.ensures.side_condition refl
