use Rattle.std.proofs.Common.{refl}
use Rattle.nom_internal.specs.Results.JudgedSideCondition.{Dropped}
use Rattle.nom_internal.proofs.Shown.{err_from_residual}
use Rattle.nom_combinator.proofs.MapsAlloc.{map_err, map_some, map_none}
use Rattle.nom_combinator.proofs.alloc_value.ValueAllocParser.process.Goals as goal

pub returns-in_err-rest-clause-shown : goal.returns-in_err-rest-clause-shown
returns-in_err-rest-clause-shown g c =
    map_err (λ _. g.G.Fn.post c.args.self.now.make tt) (g.F.Parser.grammar _).meaning c.requires.runs.1 c.in_err-rest.ensures.shown
    (err_from_residual c.from_residual.ensures)

pub returns-in-Ok-clause-shown : goal.returns-in-Ok-clause-shown
returns-in-Ok-clause-shown g c =
    map_some (λ _. g.G.Fn.post c.args.self.now.make tt) (g.F.Parser.grammar _).meaning c.requires.runs.1 c.in-Some.is c.in-Ok.is c.make.ensures
    c.in_ok-rest.ensures.shown

pub returns-in-Some-clause-side_condition : goal.returns-in-Some-clause-side_condition
returns-in-Some-clause-side_condition g c = Dropped _ c.in_ok-rest.ensures.side_condition refl

pub returns-clause-shown : goal.returns-clause-shown
returns-clause-shown g c =
    map_none (λ _. g.G.Fn.post c.args.self.now.make tt) (g.F.Parser.grammar _).meaning c.requires.runs.1 c.in-None.is c.in_ok-rest.ensures.shown
