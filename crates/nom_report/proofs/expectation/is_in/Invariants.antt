use Rattle.std.proofs.Common.{◌≡◌, ◌<◌, ℕ, map, slice_index_or}
use Rattle.nom_report.specs.Wanted.{seen}
use Rattle.nom_report.proofs.expectation.is_in.Given as goal

abbrev pub invariant-loop-item : goal.invariant-loop-item
invariant-loop-item l = (k : ℕ) → k < l.item-index → seen l.it ≡ slice_index_or (map seen l.items) k (seen l.it) → ⊥
