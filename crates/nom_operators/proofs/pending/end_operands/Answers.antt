use Rattle.std.proofs.Common.{arith, rules, ◌≡◌, true, subst}
use Rattle.nom_operators.specs.OperatorTrees.{ends_operand}
use Rattle.nom_operators.specs.helpers.Pending.{IsEnding}
use Rattle.nom_operators.specs.Steps.{waiting}
use Rattle.nom_operators.proofs.PendingShown.{next_read}
use Rattle.nom_operators.proofs.StepsShown.{fewer_wait}
use Rattle.nom_operators.proofs.pending.end_operands.Goals as goal

pub loop-innermost-preserved : goal.loop-innermost-preserved
loop-innermost-preserved g c =
    let next = c.next-innermost in
    record {
      ended = λ ss h. next_read (λ x. g.G.Fn.post c.args.fold.now (x, tt)) (λ j. ends_operand c.args.precedence c.args.from_left j ≡ true) ss
          c.loop-innermost.innermost next.result c.loop-innermost.outer.items next.new.outer.items c.in-Some.pending c.loop-innermost.value
          c.fold_pending-value.result c.in-Some.is (c.loop-innermost.invariant.ended ss h) (search rules) c.fold_pending-value.ensures next.ensures.next;
      nested = next.ensures.nested;
      fewer = omega (
        arith,
        fewer_wait c.loop-innermost.innermost next.result c.loop-innermost.outer.items next.new.outer.items c.in-Some.pending c.in-Some.is
            next.ensures.next,
        c.loop-innermost.invariant.fewer,
      );
    }

pub returns-then-not-ends-clause-ended : goal.returns-then-not-ends-clause-ended
returns-then-not-ends-clause-ended g c = λ ss h. subst (λ i. IsEnding (λ x. g.G.Fn.post c.args.fold.now (x, tt)) c.args.precedence c.args.from_left ss
    (waiting i c.loop-innermost.outer.items) c.loop-innermost.value) c.in-Some.is (c.loop-innermost.invariant.ended ss h)

pub returns-clause-ended : goal.returns-clause-ended
returns-clause-ended g c = λ ss h. subst (λ i. IsEnding (λ x. g.G.Fn.post c.args.fold.now (x, tt)) c.args.precedence c.args.from_left ss
    (waiting i c.loop-innermost.outer.items) c.loop-innermost.value) c.in_default.is (c.loop-innermost.invariant.ended ss h)
