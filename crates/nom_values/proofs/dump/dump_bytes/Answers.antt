use Rattle.std.proofs.Common.{◌-◌, ◌+◌, ◌*◌, ◌<◌, ◌≡◌, ◌++◌, suc, arith, length, drop, subst}
use Rattle.std.specs.Prelude.{min}
use Rattle.nom_values.specs.Dumps.{dump_lines, hex_dump}
use Rattle.nom_values.proofs.DumpLines.{lines_start, lines_end, line_step, part_is}
use Rattle.nom_values.proofs.dump.dump_bytes.Goals as goal

pub loop-passed-init : goal.loop-passed-init
loop-passed-init g c = (
  0,
  length c.args.bytes.now,
  λ _. omega arith,
  omega arith,
  omega arith,
  lines_start c.args.chunk c.args.from c.args.bytes.now c.new-dump.result.items c.new-dump.ensures.items,
)

pub loop-passed-preserved : goal.loop-passed-preserved
loop-passed-preserved g c =
    let i = c.loop-passed.invariant in
    let bs = c.args.bytes.now in
    let chunk = c.args.chunk in
    let passed = c.loop-passed.passed in
    let m = c.min.result in
    let inside : passed < length bs = c.loop-passed-test.true in
    let least : m ≡ min chunk (length bs - passed) = c.min.ensures in
    let at : passed ≡ i.0 * chunk = i.2 inside in
    let n = i.1 - 1 in
    let more : i.1 ≡ suc n = omega (arith, inside, i.4) in
    let whole = subst (λ k. c.loop-passed.dump.items ++ dump_lines k chunk (c.args.from + passed) (drop passed bs) ≡ hex_dump chunk c.args.from bs) more
    i.5 in (
      i.0 + 1,
      n,
      λ h. let full : m ≡ chunk = omega (arith, least, h) in omega (arith, at, full),
      omega (arith, least, inside),
      omega (arith, least, inside, i.4, more, c.requires.chunk),
      line_step chunk c.args.from bs n passed m c.loop-passed.dump.items c.push_line.new.dump.items _ (hex_dump chunk c.args.from bs) inside least
          (part_is chunk c.args.from bs passed m (passed + m - passed) inside least (omega arith)) c.in_ok-push_line.ensures whole,
    )

pub returns-clause-dump : goal.returns-clause-dump
returns-clause-dump g c =
    let i = c.loop-passed.invariant in
    lines_end c.args.chunk c.args.from c.args.bytes.now i.1 c.loop-passed.passed c.loop-passed.dump.items _
    (let h = c.loop-passed-test.false in omega arith) i.5
