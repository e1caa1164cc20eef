use Rattle.std.specs.Prelude.{false}
use Rattle.nom_internal.specs.Prelude.{Parses}
use Rattle.nom_report.proofs.Turns.{taken_at_once, taken_later}
use Rattle.nom_report.proofs.in_turn.parse_complete_in_turn.Goals as goal

pub returns-in-Some-clause-shown : goal.returns-in-Some-clause-shown
returns-in-Some-clause-shown g c = record {
  answer = c.parse_complete.result;
  answered = c.parse_complete.ensures.shown;
  taken =
      taken_at_once (Parses g.I.Items.model (g.Q.Parser.grammar (g.Q.Parser.state c.args.full.now)) false c.args.input c.in-Some.answer)
      c.parse_complete.result c.in-Some.answer c.in-Some.ensures;
}

pub returns-in-None-clause-shown : goal.returns-in-None-clause-shown
returns-in-None-clause-shown g c = record {
  answer = c.parse_complete.result;
  answered = c.parse_complete.ensures.shown;
  taken =
      taken_later (Parses g.I.Items.model (g.Q.Parser.grammar (g.Q.Parser.state c.args.full.now)) false c.args.input c.parse_complete-in-None.result)
      c.parse_complete.result c.parse_complete-in-None.result c.in-None.ensures c.parse_complete-in-None.ensures.shown;
}
