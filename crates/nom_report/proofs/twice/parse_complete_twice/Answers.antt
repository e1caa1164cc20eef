use Rattle.std.specs.Prelude.{true, false, ◌⊎◌}
use Rattle.std.proofs.Common.{inr}
use Rattle.nom_internal.specs.Prelude.{Grammar, Parses, modes}
use Rattle.nom_internal.specs.Word.{answers_by}
use Rattle.nom_report.specs.Twice.{parsed_twice, twice_worded}
use Rattle.nom_report.specs.Twice.OwesTwice.{Again}
use Rattle.nom_report.proofs.Again.{in_either}
use Rattle.nom_report.proofs.twice.parse_complete_twice.Goals as goal

pub returns-in-Some-clause-written : goal.returns-in-Some-clause-written
returns-in-Some-clause-written g c = answers_by _ (twice_worded (g.P.Parser.worded _)) c.in-Some.ensures.shown

pub returns-in-None-clause-shown : goal.returns-in-None-clause-shown
returns-in-None-clause-shown g c =
    let h = g.P.Parser.grammar (g.P.Parser.state c.args.parser.now) in
    in_either g.I.Items.model h false c.args.input (rw c.without_errors.ensures.kept at c.parse_complete.ensures.shown)

pub returns-in-None-clause-written : goal.returns-in-None-clause-written
returns-in-None-clause-written g c =
    let h = g.P.Parser.grammar (g.P.Parser.state c.args.parser.now) in
    answers_by _ (twice_worded (g.P.Parser.worded _))
    (in_either g.I.Items.model h false c.args.input (rw c.without_errors.ensures.kept at c.parse_complete.ensures.shown))

pub returns-in-None-clause-side_condition : goal.returns-in-None-clause-side_condition
returns-in-None-clause-side_condition g c =
    Again c.in-None.ensures.shown c.without_errors.new.parser c.without_errors.ensures.kept c.in-None.ensures.side_condition
    c.parse_complete.ensures.side_condition
