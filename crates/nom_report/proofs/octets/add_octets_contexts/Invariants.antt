use Rattle.std.proofs.Common.{◌≡◌, ◌++◌, map, string_bytes, take}
use Rattle.nom_report.specs.Named.{named}
use Rattle.nom_report.specs.Octets.{octets_contexts}
use Rattle.nom_report.proofs.octets.add_octets_contexts.Given as goal

abbrev pub invariant-loop-context : goal.invariant-loop-context
invariant-loop-context g l = string_bytes l.out ≡ string_bytes l.fn.out ++ octets_contexts l.source l.start (map named (take l.context-index l.contexts))
