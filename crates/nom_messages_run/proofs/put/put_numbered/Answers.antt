use Rattle.std.proofs.Common.{◌++◌, ◌∙◌, ap, append-nil}
use Rattle.nom_run.proofs.Piecewise.{puts_same}
use Rattle.nom_messages_run.proofs.put.put_numbered.Goals as goal

pub returns-clause-puts : goal.returns-clause-puts
returns-clause-puts g c = puts_same (ap (λ z. c.args.before.now ++ (c.format.result.now ++ z)) (append-nil c.args.after.now)
    ∙ ap (λ z. c.args.before.now ++ (z ++ c.args.after.now)) c.format.ensures.text) c.put_texts.ensures.puts
