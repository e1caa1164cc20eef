use Rattle.std.proofs.Common.{map, take}
use Rattle.nom_report.specs.Wanted.{seen}
use Rattle.nom_report.specs.Kept.{AddsEach, kept}
use Rattle.nom_report.proofs.list.Expectations.join.Given as goal

abbrev pub invariant-loop-it : goal.invariant-loop-it
invariant-loop-it l = AddsEach (kept l.initial.self) (map seen (take l.it-index l.it-items)) (kept l.self)
