use Rattle.std.proofs.Common.{◌++◌, ap, append-nil, append_assoc, length, refl, sym}
use Rattle.std.specs.Prelude.{codes}
use Rattle.std.specs.Fmt.{decimal}
use Rattle.nom_run.specs.Texts.{digits_text}
use Rattle.nom_run.proofs.Piecewise.{puts_both, puts_first, puts_same}
use Rattle.nom_messages_run.proofs.put.put_bytes.Goals as goal

pub returns-in-Err-clause-puts : goal.returns-in-Err-clause-puts
returns-in-Err-clause-puts g c =
    let count = decimal (length c.args.bytes.now) in
    puts_first (digits_text c.args.bytes.now ++ codes "\n") (sym (append_assoc (codes "text " ++ count) (digits_text c.args.bytes.now) (codes "\n")))
    (puts_same (ap (λ z. codes "text " ++ z) (append-nil count)) c.in-Err.ensures.puts)

pub returns-in-Err-put_digits-clause-puts : goal.returns-in-Err-put_digits-clause-puts
returns-in-Err-put_digits-clause-puts g c =
    let count = decimal (length c.args.bytes.now) in
    puts_both (sym (append_assoc (codes "text " ++ count) (digits_text c.args.bytes.now) (codes "\n")))
    (puts_same (ap (λ z. codes "text " ++ z) (append-nil count)) c.in-Ok.ensures.puts)
    (puts_first (codes "\n") refl c.in-Err-put_digits.ensures.puts)

pub returns-clause-puts : goal.returns-clause-puts
returns-clause-puts g c =
    let count = decimal (length c.args.bytes.now) in
    puts_both (sym (append_assoc (codes "text " ++ count) (digits_text c.args.bytes.now) (codes "\n")))
    (puts_same (ap (λ z. codes "text " ++ z) (append-nil count)) c.in-Ok.ensures.puts)
    (puts_both refl c.in-Ok-put_digits.ensures.puts c.put.ensures.puts)
