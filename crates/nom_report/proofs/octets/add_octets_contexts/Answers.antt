use Rattle.std.proofs.Common.{string_bytes, map, take, ◌+◌}
use Rattle.nom_report.specs.Named.{named}
use Rattle.nom_report.specs.Octets.{octets_context, octets_contexts}
use Rattle.nom_report.proofs.Contexts.{each_more}
use Rattle.nom_report.proofs.Windows.{appended}
use Rattle.nom_report.proofs.octets.add_octets_contexts.Goals as goal

pub loop-context-preserved : goal.loop-context-preserved
loop-context-preserved g c =
    let source = c.args.source.now in
    let all = c.args.contexts.now in
    appended (string_bytes c.add_octets_context.new.out) (string_bytes c.loop-context.out) (string_bytes c.args.out.now)
    (octets_contexts source c.args.start (map named (take c.loop-context.context-index all)))
    (octets_contexts source c.args.start (map named (take (c.loop-context.context-index + 1) all))) _
    c.in_ok-add_octets_context.ensures c.loop-context.invariant
    (each_more (octets_context source c.args.start) named all c.loop-context.context-index _ c.loop-context-test.true)
