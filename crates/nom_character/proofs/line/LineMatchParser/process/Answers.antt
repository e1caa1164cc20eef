use Rattle.nom_character.proofs.line.LineMatchParser.process.Goals as goal

pub returns-clause-shown : goal.returns-clause-shown
returns-clause-shown g c = rw c.kind.ensures at (c.answer.ensures (g.P.LinePattern.pattern _ g.I.Item.Value.code) c.matched-found.ensures)
