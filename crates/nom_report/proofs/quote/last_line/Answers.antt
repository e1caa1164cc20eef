use Rattle.nom_report.proofs.QuotedLines.{last_is, last_is_all}
use Rattle.nom_report.proofs.quote.last_line.Goals as goal

pub returns-in-Some : goal.returns-in-Some
returns-in-Some c = last_is c.args.text.now c.in-Some.field-0-0.now c.in-Some.line.now c.in-Some.ensures.cases

pub returns-in-None : goal.returns-in-None
returns-in-None c = last_is_all c.args.text.now c.in-None.ensures.cases
