use Rattle.std.proofs.Common.{◌++◌, ap, ◌∙◌, ◌*◌, append_assoc}
use Rattle.std.specs.Prelude.{replicate}
use Rattle.nom_values.proofs.DumpLines.{blanks_more}
use Rattle.nom_values.proofs.dump.push_blanks.Goals as goal

pub loop-byte-preserved : goal.loop-byte-preserved
loop-byte-preserved g c =
    let old = c.args.dump.now.items in
    let n = c.loop-byte._byte in
    c.in_ok-extend_from_slice.ensures.items ∙ ap (λ l. l ++ (replicate 3 32)) c.loop-byte.invariant ∙
    append_assoc old (replicate (3 * n) 32) (replicate 3 32) ∙ ap (λ l. old ++ l) (blanks_more n)
