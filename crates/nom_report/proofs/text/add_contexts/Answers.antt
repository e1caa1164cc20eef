use Rattle.std.proofs.Common.{string_bytes}
use Rattle.nom_report.specs.Named.{named}
use Rattle.nom_report.proofs.Contexts.{told_more}
use Rattle.nom_report.proofs.text.add_contexts.Goals as goal

pub loop-context-preserved : goal.loop-context-preserved
loop-context-preserved g c =
    told_more c.args.source.now c.args.start named c.args.contexts.now c.loop-context.context-index _ (string_bytes c.add_context.new.out)
    (string_bytes c.loop-context.out) (string_bytes c.args.out.now) c.loop-context-test.true c.loop-context.invariant c.in_ok-add_context.ensures
