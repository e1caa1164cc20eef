use Rattle.nom_report.proofs.QuotedLines.{no_return}
use Rattle.nom_report.proofs.quote.without_return.Goals as goal

pub returns-in-None : goal.returns-in-None
returns-in-None c = no_return c.args.text.now c.in-None.ensures.cases
