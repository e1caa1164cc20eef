use Rattle.std.proofs.Common.{arith, rules, refl, ◌∙◌}
use Rattle.nom_operators.specs.Closes.{Closes}
use Rattle.nom_operators.specs.Groups.{groups_left}
use Rattle.nom_operators.specs.Steps.Joined.{NoneJoined}
use Rattle.nom_operators.specs.declared.operation.Operation.TheVariants.{Binary}
use Rattle.nom_operators.proofs.StepsShown.{joined_at, joined_more, fewer_wait}
use Rattle.nom_operators.proofs.waiting.close.Goals as goal

pub loop-innermost-init : goal.loop-innermost-init
loop-innermost-init g c = record { joined = NoneJoined _ _ refl refl; nested = c.requires.nested; capacity = refl; fewer = omega arith }

pub loop-innermost-smaller : goal.loop-innermost-smaller
loop-innermost-smaller g c = fewer_wait _ c.next-innermost.result _ c.next-innermost.new.outer.items _ c.in-Some.is c.next-innermost.ensures.next

pub loop-innermost-preserved : goal.loop-innermost-preserved
loop-innermost-preserved g c =
    let i = c.loop-innermost.invariant in
    let next = c.next-innermost in
    record {
      joined = joined_more (λ x d y z. g.G.Fn.post c.args.fold.now (Binary x d.1 y, tt) z) (λ d. Closes (groups_left c.args.levels.now) c.args.level d.0)
          _ _ _ next.result _ next.new.outer.items _ _ _ c.in-Some.is i.joined (c.closes.ensures.closes (search rules)) c.join-value.ensures
          next.ensures.next;
      nested = next.ensures.nested;
      capacity = (next.ensures.room).0 ∙ i.capacity;
      fewer = omega (arith, next.ensures.room, i.fewer);
    }

pub returns-then-not-closes-clause-joined : goal.returns-then-not-closes-clause-joined
returns-then-not-closes-clause-joined g c = joined_at (λ x d y z. g.G.Fn.post c.args.fold.now (Binary x d.1 y, tt) z)
    (λ d. Closes (groups_left c.args.levels.now) c.args.level d.0) _ _ c.loop-innermost.innermost _ c.loop-innermost.outer.items _ c.in-Some.is
    c.loop-innermost.invariant.joined

pub returns-clause-joined : goal.returns-clause-joined
returns-clause-joined g c = joined_at (λ x d y z. g.G.Fn.post c.args.fold.now (Binary x d.1 y, tt) z)
    (λ d. Closes (groups_left c.args.levels.now) c.args.level d.0) _ _ c.loop-innermost.innermost _ c.loop-innermost.outer.items _ c.in_default.is
    c.loop-innermost.invariant.joined
