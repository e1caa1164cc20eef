use Rattle.nom_branch.specs.Rounds.{IsApplied}
use Rattle.nom_branch.proofs.Places.{BothHold, more_applied, taken_built, none_built, pair_built}
use Rattle.nom_branch.proofs.members.MoreNested.outputs.Goals as goal

pub returns-in-Some-outputs : goal.returns-in-Some-outputs
returns-in-Some-outputs g c outputs s t h k =
    let o = (g.A.Parser.grammar s.1).IsOutput in
    let over = more_applied _ _ (g.M.Nested.members s.0) (g.A.Parser.grammar s.1).meaning t k in
    pair_built outputs (g.M.Nested.AreOutputs s.0 t.0) (IsApplied o t.1) _ _ _ _ c.in-Some-outputs.is c.in-Some.is
    (c.outputs.ensures outputs s.0 t.0 h.0 over.0) (taken_built outputs o t.1 over.1 c.args.slots.1 _ over.2 h.1 c.taken.ensures)

pub returns-in-None-outputs : goal.returns-in-None-outputs
returns-in-None-outputs g c outputs s t h k =
    let others = g.M.Nested.AreOutputs s.0 t.0 in
    let over = more_applied _ _ (g.M.Nested.members s.0) (g.A.Parser.grammar s.1).meaning t k in
    none_built outputs others (BothHold others (IsApplied (g.A.Parser.grammar s.1).IsOutput t.1)) _ c.in-None-outputs.is
    (c.outputs.ensures outputs s.0 t.0 h.0 over.0)

pub returns-in-None : goal.returns-in-None
returns-in-None g c outputs s t h k =
    let o = (g.A.Parser.grammar s.1).IsOutput in
    let over = more_applied _ _ (g.M.Nested.members s.0) (g.A.Parser.grammar s.1).meaning t k in
    none_built outputs (IsApplied o t.1) (BothHold (g.M.Nested.AreOutputs s.0 t.0) (IsApplied o t.1)) _ c.in-None.is
    (taken_built outputs o t.1 over.1 c.args.slots.1 _ over.2 h.1 c.taken.ensures)
