use Rattle.std.proofs.Common.{rules}
use mathlib.Core.List.{Mem-prop}
use native.Mathlib.Bridge.{le_prop}
use Rattle.nom_recursion.proofs.StreamBelow.{deep_streams, stream_below, stream_deepest, streams_soundly}
use Rattle.nom_recursion.proofs.stream.+fn-stream_recursive_rule-inside+stream_recursive_rule.Goals as goal

pub returns-then-depth-eq0 : goal.returns-then-depth-eq0
returns-then-depth-eq0 g t c = stream_deepest _ _ _ _ _ _ _ _ c.if-depth-eq0.true (deep_streams _ _ _ _ _ c.too_deep.ensures)

pub rule-requires-clause-sound : goal.rule-requires-clause-sound
rule-requires-clause-sound g t c = λ r. streams_soundly _ _ (λ i q h. h)

pub returns : goal.returns
returns g t c = stream_below _ _ _ _ c.args.depth _ c.args.rule c.args.input c.rule.result c.if-depth-eq0.false c.rule.ensures
    (λ p i. hlevel (le_prop, Mem-prop))
    (λ p i. (search rules, (λ a m. m, (λ a m. m, (λ a m. m, (λ a m. m, (λ a m. m, λ a m. m)))))))
