use Rattle.std.proofs.Common.{rules, ◌∷◌, ◌++◌, [], subst, sym, ◌∙◌}
use Rattle.nom_operators.specs.OperatorTrees.Symbol.{OfOperand, OfPostfix}
use Rattle.nom_operators.specs.helpers.Pending.{HasRead}
use Rattle.nom_operators.specs.Steps.{waiting}
use Rattle.nom_operators.proofs.PendingShown.{operand_read, begins_turned, goes_on_turned, ends_turned}
use Rattle.nom_operators.proofs.pending.apply_all.Goals as goal

pub loop-postfix-init : goal.loop-postfix-init
loop-postfix-init g c = record {
  read = λ ss h. (
    ss ++ OfOperand c.args.operand ∷ [],
    operand_read (λ x. g.G.Fn.post c.args.fold.now (x, tt)) ss _ c.args.operand h,
    begins_turned OfPostfix (OfOperand c.args.operand) ss c.args.postfixes.items _ c.reverse.ensures.items,
  );
  nested = c.requires.nested;
}

pub loop-postfix-preserved : goal.loop-postfix-preserved
loop-postfix-preserved g c =
    let applied = c.apply-applied.ensures in
    record {
      read = λ ss h.
          let i = c.loop-postfix.invariant.read ss h in (
            i.0 ++ OfPostfix c.in-Some.postfix ∷ [],
            applied.read i.0 i.1,
            goes_on_turned OfPostfix i.0 c.in-Some.postfix _ _ c.in-Some.ensures.items ∙ i.2,
          );
      nested = applied.nested;
    }

pub returns-clause-read : goal.returns-clause-read
returns-clause-read g c = λ ss h.
    let i = c.loop-postfix.invariant.read ss h in
    subst (λ now. HasRead (λ x. g.G.Fn.post c.args.fold.now (x, tt)) now (waiting c.loop-postfix.inner c.loop-postfix.outer.items) c.loop-postfix.value)
    (sym (ends_turned OfPostfix i.0 c.loop-postfix.postfixes.items (search rules)) ∙ i.2) i.1
