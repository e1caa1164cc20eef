use Rattle.std.proofs.Common.{Some, arith, ◌+◌, ◌≤◌, length, subst}
use Rattle.nom_traits.specs.Bytes.{bytes_model}
use Rattle.nom_traits.specs.Runs.{IsPosition}
use Rattle.nom_traits.specs.Classes.{IsIn, IsNotIn}
use Rattle.nom_traits.proofs.ByteLanes.{passed_more}
use Rattle.nom_traits.proofs.ByteRuns.{byte_ends}
use Rattle.nom_traits.proofs.lanes.bytes_outside.Goals as goal

pub returns-then-run-lt-BLOCK : goal.returns-then-run-lt-BLOCK
returns-then-run-lt-BLOCK c =
    let run = c.run_in_block-run.ensures in
    let short = c.if-run-lt-BLOCK.true in
    let test = c.loop-place-test.true in
    byte_ends (IsIn c.args.set) (IsNotIn c.args.set) c.args.bytes (c.loop-place.place + c.run_in_block-run.result) (omega arith)
    (passed_more (IsIn c.args.set) c.args.bytes.now c.loop-place.place c.run_in_block-run.result (omega arith) c.loop-place.invariant.1 run.passes)
    (run.stops (omega arith))

pub loop-place-preserved : goal.loop-place-preserved
loop-place-preserved c =
    let run = c.run_in_block-run.ensures in
    let all = c.if-run-lt-BLOCK.false in
    let test = c.loop-place-test.true in
    let room : c.loop-place.place + 32 ≤ length c.args.bytes.now = omega arith in (
      room,
      passed_more (IsIn c.args.set) c.args.bytes.now c.loop-place.place 32 room c.loop-place.invariant.1
          (λ k from to. run.passes k from (omega arith)),
    )

pub returns-then-run-lt-FIRST : goal.returns-then-run-lt-FIRST
returns-then-run-lt-FIRST c =
    let run = c.run_in_first-run.ensures in
    let n = c.run_in_first-run.result in
    let short = c.if-run-lt-FIRST.true in
    let long = c.if-bytes-ge-FIRST.true in
    subst (λ k. IsPosition bytes_model (IsIn c.args.set) (IsNotIn c.args.set) c.args.bytes (Some k)) (omega arith)
    (byte_ends (IsIn c.args.set) (IsNotIn c.args.set) c.args.bytes (0 + n) (omega arith)
    (passed_more (IsIn c.args.set) c.args.bytes.now 0 n (omega arith) (λ k d h. absurd (omega (arith, h))) (λ k from to. run.passes k from (omega arith)))
    (run.stops (omega arith)))
