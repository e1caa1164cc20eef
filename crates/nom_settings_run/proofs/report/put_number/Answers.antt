use Rattle.std.proofs.Common.{◌++◌, ◌∙◌, ap, append-nil}
use Rattle.nom_run.proofs.Piecewise.{puts_same}
use Rattle.nom_settings_run.proofs.report.put_number.Goals as goal

pub returns-clause-puts : goal.returns-clause-puts
returns-clause-puts g c = puts_same (ap (λ z. c.format.result.now ++ z) (append-nil c.args.after.now)
    ∙ ap (λ z. z ++ c.args.after.now) c.format.ensures.text) c.put_texts.ensures.puts
