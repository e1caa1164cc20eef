use Rattle.std.proofs.Common.{◌≡◌, ◌++◌, replicate, string_bytes}
use Rattle.nom_report.proofs.quote.add_spaces.Given as goal

abbrev pub invariant-loop-at : goal.invariant-loop-at
invariant-loop-at g l = string_bytes l.out ≡ string_bytes l.fn.out ++ replicate l._at 32
