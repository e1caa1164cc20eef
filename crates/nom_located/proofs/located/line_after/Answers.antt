use Rattle.std.proofs.Common.{arith, length, sym, ◌∙◌}
use Rattle.nom_located.proofs.LineEnds.{fits_end, past_all, past_end}
use Rattle.nom_located.proofs.located.line_after.Goals as goal

pub loop-end-preserved : goal.loop-end-preserved
loop-end-preserved c =
    let bs = c.args.bytes.now in
    let before = c.loop-end.invariant in
    let found = c.in-Some.ensures in
    record {
      within = omega (arith, found.0.high);
      passed = sym (past_end bs c.args.offset c.loop-end.line c.loop-end.column c.loop-end.at c.in-Some.end found) ∙ before.passed;
      left = fits_end c.args.offset c.loop-end.line c.loop-end.column c.loop-end.at c.in-Some.end (length bs) found.0.low found.0.high before.left;
    }

pub returns : goal.returns
returns c =
    let before = c.loop-end.invariant in
    sym (past_all c.args.bytes.now c.args.offset c.loop-end.line c.loop-end.column c.loop-end.at before.within c.in_default.ensures) ∙ before.passed
