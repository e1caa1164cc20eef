use Rattle.std.proofs.Common.{length, ◌-◌, ◌≡◌, ◌≤◌, [], take}
use Rattle.nom_io.specs.Written.{Wrote}
use Rattle.nom_run.proofs.run.write_all.Given as goal

abbrev pub invariant-loop-at : goal.invariant-loop-at
invariant-loop-at g l = record {
  none : l.text ≡ [] → l.sink ≡ l.fn.sink;
  within : l.at ≤ length l.text;
  wrote : Wrote (g.W.ByteWriter.account l.fn.sink) (g.W.ByteWriter.account l.sink) (take l.at l.text);
}

abbrev pub decreases-loop-at : goal.decreases-loop-at
decreases-loop-at g l = length l.text - l.at
