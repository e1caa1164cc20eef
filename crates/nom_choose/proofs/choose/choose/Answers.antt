use Rattle.std.proofs.Common.{◌≡◌, ◌<◌, length, map, ap, arith}
use Rattle.std.proofs.lemmas.List.{length-map}
use Rattle.std.proofs.lemmas.Bool.Decides.{nat_tests}
use Rattle.nom_internal.specs.Prelude.{modes}
use Rattle.nom_choose.proofs.Listed.{branch_runs, branch_kept, branch_first, branch_step, branch_close, branch_none}
use Rattle.nom_choose.proofs.choose.choose.Goals as goal

pub returns-then-is_empty-clause-shown : goal.returns-then-is_empty-clause-shown
returns-then-is_empty-clause-shown g c =
    let none : length c.args.branches.now ≡ 0 = grind (arith, nat_tests) in
    branch_none g.I.Items.model g.A.Error.ParseError.errors g.A.Parser.grammar g.A.Parser.state
    (modes g.OM.Output.Mode.BUILDS g.OM.Error.Mode.BUILDS g.OM.Incomplete.IsStreaming.STREAMING) c.args.input c.args.branches.now c.refusal.result
    none c.refusal.ensures

pub process-answer-requires : goal.process-answer-requires
process-answer-requires g c =
    let some : 0 < length c.args.branches.now = grind (arith, nat_tests) in
    record {
      runs = branch_runs g.A.Error.ParseError.errors (λ s. (g.A.Parser.grammar s).meaning) g.A.Parser.state c.args.branches.now c.args.branches.now 0
          c.index-branches-0.result (λ _. map g.A.Parser.state c.args.branches.now) some c.requires;
    }

pub loop-k-init : goal.loop-k-init
loop-k-init g c =
    let some : 0 < length c.args.branches.now = grind (arith, nat_tests) in
    record {
      kept = branch_kept g.A.Parser.state c.args.branches.now c.args.branches.now 0 c.index-branches-0.result c.process-answer.new.self
          (λ _. map g.A.Parser.state c.args.branches.now) c.process-answer.ensures.kept;
      shown = branch_first g.I.Items.model g.A.Error.ParseError.errors g.A.Parser.grammar g.A.Parser.state
          (modes g.OM.Output.Mode.BUILDS g.OM.Error.Mode.BUILDS g.OM.Incomplete.IsStreaming.STREAMING) c.args.input c.args.branches.now
          c.index-branches-0.result c.process-answer.result some c.process-answer.ensures.shown;
    }

pub next_branch-answer-requires : goal.next_branch-answer-requires
next_branch-answer-requires g c =
    let k : c.loop-k.k < length c.loop-k.branches = omega arith in
    branch_runs g.A.Error.ParseError.errors (λ s. (g.A.Parser.grammar s).meaning) g.A.Parser.state c.loop-k.branches c.args.branches.now c.loop-k.k
    c.index-branches-k.result c.loop-k.invariant.kept k c.requires

pub loop-k-preserved : goal.loop-k-preserved
loop-k-preserved g c =
    let k : c.loop-k.k < length c.loop-k.branches = omega arith in
    let some : 0 < c.loop-k.k = omega arith in
    record {
      kept = branch_kept g.A.Parser.state c.loop-k.branches c.args.branches.now c.loop-k.k c.index-branches-k.result c.next_branch-answer.new.next
          c.loop-k.invariant.kept c.next_branch-answer.ensures.kept;
      shown = branch_step g.I.Items.model g.A.Error.ParseError.errors g.A.Parser.grammar g.A.Parser.state
          (modes g.OM.Output.Mode.BUILDS g.OM.Error.Mode.BUILDS g.OM.Incomplete.IsStreaming.STREAMING) c.args.input c.loop-k.branches
          c.args.branches.now c.loop-k.k c.index-branches-k.result c.loop-k.answer c.next_branch-answer.result c.loop-k.invariant.kept some k
          c.loop-k.invariant.shown c.next_branch-answer.ensures.shown;
    }

pub returns-clause-shown : goal.returns-clause-shown
returns-clause-shown g c =
    let some : 0 < length c.args.branches.now = grind (arith, nat_tests) in
    let same = ap length c.loop-k.invariant.kept in
    let whole : c.loop-k.k ≡ length c.args.branches.now =
    omega (arith, length-map c.loop-k.branches g.A.Parser.state, length-map c.args.branches.now g.A.Parser.state, same) in
    branch_close g.I.Items.model g.A.Error.ParseError.errors g.A.Parser.grammar g.A.Parser.state
    (modes g.OM.Output.Mode.BUILDS g.OM.Error.Mode.BUILDS g.OM.Incomplete.IsStreaming.STREAMING) c.args.input c.args.branches.now c.loop-k.k
    c.loop-k.answer c.close.result some whole c.loop-k.invariant.shown c.close.ensures

pub returns-clause-kept : goal.returns-clause-kept
returns-clause-kept g c = c.loop-k.invariant.kept
