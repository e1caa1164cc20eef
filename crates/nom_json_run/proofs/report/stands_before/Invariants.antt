use Rattle.std.proofs.Common.{◌≡◌, length, take, ◌≤◌}
use Rattle.nom_json_run.specs.Report.{before_is}
use Rattle.nom_json_run.proofs.report.stands_before.Given as goal

abbrev pub invariant-loop-at : goal.invariant-loop-at
invariant-loop-at l = record {
  within : l.at ≤ length l.bytes;
  same : before_is l.byte (take l.at l.bytes) ≡ before_is l.byte (take l.initial.at l.bytes);
}

abbrev pub decreases-loop-at : goal.decreases-loop-at
decreases-loop-at l = l.at
