use Rattle.std.proofs.Common.{◌≡◌, ◌==◌, true, false, append-nil, length, sym}
use Rattle.nom_run.specs.Texts.{hex_of}
use Rattle.nom_run.proofs.Piecewise.{puts_both, puts_first, puts_held, puts_same}
use Rattle.nom_messages_run.proofs.Putting.{hex_lines, no_digits, some_digits}
use Rattle.nom_messages_run.proofs.put.put_digits.Goals as goal

pub returns-then-is_empty-clause-puts : goal.returns-then-is_empty-clause-puts
returns-then-is_empty-clause-puts g c =
    let none : (length c.args.bytes.now == 0) ≡ true = cc in
    puts_same (sym (no_digits c.args.bytes.now none)) (puts_held (sym (append-nil _)))

pub returns-in-Err-clause-puts : goal.returns-in-Err-clause-puts
returns-in-Err-clause-puts g c =
    let some : (length c.args.bytes.now == 0) ≡ false = cc in
    puts_first (hex_of c.args.bytes.now) (some_digits c.args.bytes.now some) c.in-Err.ensures.puts

pub returns-clause-puts : goal.returns-clause-puts
returns-clause-puts g c =
    let some : (length c.args.bytes.now == 0) ≡ false = cc in
    puts_both (some_digits c.args.bytes.now some) c.in-Ok.ensures.puts (puts_same (hex_lines c.args.bytes.now) c.put_each.ensures.puts)
