use Rattle.std.proofs.Common.{◌≡◌, ◌++◌, take, string_bytes}
use Rattle.nom_run.specs.Texts.{lines_text}
use Rattle.nom_run.proofs.report.add_lines.Given as goal

abbrev pub invariant-loop-item : goal.invariant-loop-item
invariant-loop-item g l = string_bytes l.text ≡ string_bytes l.fn.text ++ lines_text (g.L.Lines.lines l.report) (take l.item-index l.items)
