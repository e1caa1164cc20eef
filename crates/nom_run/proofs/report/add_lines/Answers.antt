use Rattle.std.proofs.Common.{◌++◌, ◌∙◌, ap, string_bytes}
use Rattle.nom_run.proofs.JoinedLines.{lines-step, lines-all}
use Rattle.nom_run.proofs.report.add_lines.Goals as goal

pub loop-item-preserved : goal.loop-item-preserved
loop-item-preserved g c = lines-step (g.L.Lines.lines c.args.report.now) _ _ _ c.args.items.now c.loop-item.item-index _ c.loop-item-test.true
    c.loop-item.invariant (c.in_ok-add.ensures ∙ ap (λ x. string_bytes c.loop-item.text ++ g.L.Lines.lines c.args.report.now x) c.item-item.is)

pub returns : goal.returns
returns g c = lines-all (g.L.Lines.lines c.args.report.now) _ _ c.args.items.now c.loop-item.item-index c.loop-item-test.false c.loop-item.invariant
