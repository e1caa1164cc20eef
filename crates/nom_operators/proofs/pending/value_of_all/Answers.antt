use Rattle.std.proofs.Common.{subst}
use Rattle.nom_operators.specs.helpers.Pending.{IsPartlyRead}
use Rattle.nom_operators.proofs.PendingShown.{all_read, any_edge, next_read}
use Rattle.nom_operators.proofs.StepsShown.{none_waits}
use Rattle.nom_operators.proofs.pending.value_of_all.Goals as goal

pub loop-innermost-init : goal.loop-innermost-init
loop-innermost-init g c = record {
  read = λ ss h. any_edge (λ x. g.G.Fn.post c.args.fold.now (x, tt)) (λ _. Unit {0}) ss _ _ h;
  nested = c.requires.nested;
}

pub loop-innermost-preserved : goal.loop-innermost-preserved
loop-innermost-preserved g c =
    let next = c.next-innermost in
    record {
      read = λ ss h. next_read (λ x. g.G.Fn.post c.args.fold.now (x, tt)) (λ _. Unit {0}) ss
          c.loop-innermost.innermost next.result c.loop-innermost.outer.items next.new.outer.items c.in-Some.pending c.loop-innermost.value
          c.fold_pending-value.result c.in-Some.is (c.loop-innermost.invariant.read ss h) tt c.fold_pending-value.ensures next.ensures.next;
      nested = next.ensures.nested;
    }

pub returns : goal.returns
returns g c = λ ss h. all_read (λ x. g.G.Fn.post c.args.fold.now (x, tt)) (λ _. Unit {0}) ss c.loop-innermost.value
    (subst (λ s. IsPartlyRead (λ x. g.G.Fn.post c.args.fold.now (x, tt)) (λ _. Unit {0}) ss s c.loop-innermost.value)
    (none_waits c.loop-innermost.innermost c.loop-innermost.outer.items c.in_default.is c.loop-innermost.invariant.nested)
    (c.loop-innermost.invariant.read ss h))
