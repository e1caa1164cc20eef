use Rattle.std.proofs.Common.{◌++◌, ◌∙◌, ap}
use Rattle.std.specs.Prelude.{codes}
use Rattle.std.specs.Fmt.{decimal}
use Rattle.nom_run.proofs.Piecewise.{puts_same}
use Rattle.nom_messages_run.proofs.Putting.{in_turn}
use Rattle.nom_messages_run.proofs.put.put_offset.Goals as goal

pub returns-clause-puts : goal.returns-clause-puts
returns-clause-puts g c =
    let what = c.args.what.now in
    puts_same (ap (λ z. c.args.before.now ++ (what ++ (codes " at " ++ (z ++ codes "\n")))) c.format.ensures.text
    ∙ ap (λ z. c.args.before.now ++ z) (in_turn what (codes " at ") (decimal c.args.offset) (codes "\n"))) c.put_texts.ensures.puts
