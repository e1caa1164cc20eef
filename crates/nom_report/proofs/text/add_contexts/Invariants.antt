use Rattle.std.proofs.Common.{◌≡◌, ◌++◌, List, ℕ, map, string_bytes, take}
use Rattle.nom_report.specs.Named.{named}
use Rattle.nom_report.specs.Rendered.{TellsContexts}
use Rattle.nom_report.proofs.text.add_contexts.Given as goal

abbrev pub invariant-loop-context : goal.invariant-loop-context
invariant-loop-context g l =
    (t : List ℕ) × TellsContexts l.source l.start (map named (take l.context-index l.contexts)) t × (string_bytes l.out ≡ string_bytes l.fn.out ++ t)
