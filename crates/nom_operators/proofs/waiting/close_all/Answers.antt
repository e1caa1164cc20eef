use Rattle.std.proofs.Common.{refl}
use Rattle.nom_operators.specs.Steps.Joined.{NoneJoined}
use Rattle.nom_operators.specs.declared.operation.Operation.TheVariants.{Binary}
use Rattle.nom_operators.proofs.StepsShown.{joined_end, joined_more, fewer_wait}
use Rattle.nom_operators.proofs.waiting.close_all.Goals as goal

pub loop-innermost-init : goal.loop-innermost-init
loop-innermost-init g c = record { joined = NoneJoined _ _ refl refl; nested = c.requires.nested }

pub loop-innermost-smaller : goal.loop-innermost-smaller
loop-innermost-smaller g c = fewer_wait _ c.next-innermost.result _ c.next-innermost.new.outer.items _ c.in-Some.is c.next-innermost.ensures.next

pub loop-innermost-preserved : goal.loop-innermost-preserved
loop-innermost-preserved g c =
    let next = c.next-innermost in
    record {
      joined = joined_more (λ x d y z. g.G.Fn.post c.args.fold.now (Binary x d.1 y, tt) z) (λ _. Unit {0}) _ _ _ next.result _ next.new.outer.items
          _ _ _ c.in-Some.is c.loop-innermost.invariant.joined tt c.join-value.ensures next.ensures.next;
      nested = next.ensures.nested;
    }

pub returns : goal.returns
returns g c = joined_end (λ x d y z. g.G.Fn.post c.args.fold.now (Binary x d.1 y, tt) z) (λ _. Unit {0}) _ _ c.loop-innermost.innermost
    c.loop-innermost.outer.items _ c.in_default.is c.loop-innermost.invariant.nested c.loop-innermost.invariant.joined
