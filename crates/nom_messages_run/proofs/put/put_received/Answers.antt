use Rattle.std.proofs.Common.{ap, drop, sym, ◌∙◌}
use Rattle.std.specs.Prelude.{codes}
use Rattle.nom_run.specs.Texts.{bytes_text}
use Rattle.nom_run.proofs.Piecewise.{puts_same}
use Rattle.nom_messages_run.specs.Pipe.{received_text}
use Rattle.nom_messages_run.proofs.Putting.{all_after}
use Rattle.nom_messages_run.proofs.put.put_received.Goals as goal

pub returns-in-Text-clause-puts : goal.returns-in-Text-clause-puts
returns-in-Text-clause-puts g c =
    let bytes = c.args.bytes.now in
    let line = ap (bytes_text (codes "text ")) (all_after bytes c.saturating_sub-start.result ∙ ap (λ n. drop n bytes) c.saturating_sub-start.ensures) in
    puts_same (ap (λ z. received_text z bytes) (sym c.in-Text.is)) (puts_same line c.put_bytes.ensures.puts)
