use Rattle.std.proofs.Common.{rules}
use mathlib.Core.List.{Mem-prop}
use native.Mathlib.Bridge.{le_prop}
use Rattle.nom_recursion.proofs.Below.{rule_below, rule_deepest}
use Rattle.nom_recursion.proofs.recursion.+fn-recursive_rule-inside+recursive_rule.Goals as goal

pub returns-then-depth-eq0 : goal.returns-then-depth-eq0
returns-then-depth-eq0 g t c = rule_deepest _ _ _ _ _ _ _ _ _ c.if-depth-eq0.true c.too_deep.ensures

pub returns : goal.returns
returns g t c = rule_below _ _ _ _ _ c.args.depth _ c.args.rule c.args.input c.rule.result c.if-depth-eq0.false c.rule.ensures
    (λ p i. hlevel (le_prop, Mem-prop))
    (λ p i. (search rules, (λ a m. m, (λ a m. m, (λ a m. m, (λ a m. m, (λ a m. m, (λ a m. m, λ a m. m))))))))
