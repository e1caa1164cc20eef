use Rattle.nom_internal.specs.Word.{answers_by}
use Rattle.nom_internal.proofs.Shown.{parsed, same_rest}
use Rattle.nom_internal.proofs.parser.Parser.parse_in.Goals as goal

pub returns-clause-shown : goal.returns-clause-shown
returns-clause-shown g c = parsed c.full.ensures c.process.ensures.shown

pub returns-clause-written : goal.returns-clause-written
returns-clause-written g c = answers_by _ (g.Self.Parser.worded _) (parsed c.full.ensures c.process.ensures.shown)

pub returns-clause-side_condition : goal.returns-clause-side_condition
returns-clause-side_condition g c = rw (same_rest _ _ c.full.ensures) at c.process.ensures.side_condition
