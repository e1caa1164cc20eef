use Rattle.nom_report.proofs.QuotedLines.{first_is, first_is_all}
use Rattle.nom_report.proofs.quote.first_line.Goals as goal

pub returns-in-Some : goal.returns-in-Some
returns-in-Some c =
    first_is c.args.text.now c.in-Some.line.now c.in-Some.field-0-1.now c.without_return.result.now c.in-Some.ensures.cases c.without_return.ensures

pub returns-in-None : goal.returns-in-None
returns-in-None c = first_is_all c.args.text.now c.in-None.ensures.cases
