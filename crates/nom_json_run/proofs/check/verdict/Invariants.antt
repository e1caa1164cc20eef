use Rattle.std.proofs.Common.{List, length, ℕ, ◌-◌, ◌≤◌, drop, reverse}
use Rattle.std.specs.Prelude.{◌↔◌}
use Rattle.nom_json_run.specs.Json.{IsValue}
use Rattle.nom_json_run.specs.Scans.{BeginsAs}
use Rattle.nom_json_run.specs.Walk.{FinishesText}
use Rattle.nom_json_run.proofs.check.verdict.Given as goal

abbrev pub invariant-steps : goal.invariant-steps
invariant-steps g l = record {
  within : l.at ≤ length l.bytes;
  same : (bs : List ℕ) → BeginsAs l.bytes l.at bs → IsValue bs ↔ FinishesText l.awaits (reverse l.open.items) (drop l.at bs);
}

abbrev pub decreases-steps : goal.decreases-steps
decreases-steps g l = length l.bytes - l.at
