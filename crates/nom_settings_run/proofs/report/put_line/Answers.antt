use Rattle.std.proofs.Common.{◌++◌, append_assoc}
use Rattle.std.specs.Prelude.{codes, decimal}
use Rattle.nom_run.proofs.Piecewise.{puts_both, puts_first}
use Rattle.nom_settings_run.specs.Report.{entry_text}
use Rattle.nom_settings_run.proofs.report.put_line.Goals as goal

pub returns-in-Err-clause-puts : goal.returns-in-Err-clause-puts
returns-in-Err-clause-puts g c =
    let after = decimal c.args.column ++ (codes " [" ++ entry_text c.args.section.now c.args.name.now c.args.value.now) in
    puts_first after (append_assoc (decimal c.args.line) (codes ":") after) c.in-Err.ensures.puts

pub returns-in-Err-put_number-clause-puts : goal.returns-in-Err-put_number-clause-puts
returns-in-Err-put_number-clause-puts g c =
    let entry = entry_text c.args.section.now c.args.name.now c.args.value.now in
    puts_both (append_assoc (decimal c.args.line) (codes ":") (decimal c.args.column ++ (codes " [" ++ entry))) c.in-Ok.ensures.puts
    (puts_first entry (append_assoc (decimal c.args.column) (codes " [") entry) c.in-Err-put_number.ensures.puts)

pub returns-clause-puts : goal.returns-clause-puts
returns-clause-puts g c =
    let entry = entry_text c.args.section.now c.args.name.now c.args.value.now in
    puts_both (append_assoc (decimal c.args.line) (codes ":") (decimal c.args.column ++ (codes " [" ++ entry))) c.in-Ok.ensures.puts
    (puts_both (append_assoc (decimal c.args.column) (codes " [") entry) c.in-Ok-put_number.ensures.puts c.put_entry.ensures.puts)
