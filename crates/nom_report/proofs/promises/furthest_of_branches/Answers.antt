use Rattle.nom_report.proofs.promises.furthest_of_branches.Goals as goal

pub returns : goal.returns
returns g c s = g.met.C.Branches.tells c.args._choice.now c.requires s
