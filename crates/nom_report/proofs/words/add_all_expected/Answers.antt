use Rattle.std.proofs.Common.{codes, length, map, string_bytes, take, ◌+◌}
use Rattle.nom_report.specs.Wanted.{seen}
use Rattle.nom_report.specs.Words.{between_text, items_text}
use Rattle.nom_report.proofs.Items.{grown, items_more}
use Rattle.nom_report.proofs.words.add_all_expected.Goals as goal

pub loop-index-preserved : goal.loop-index-preserved
loop-index-preserved g c =
    let items = c.args.items.now in
    let more = items_more seen items c.loop-index.index _ (length items) c.args.more c.loop-index-test.true in
    grown (string_bytes c.add_expected.new.out) (string_bytes c.add_between.new.out) (string_bytes c.loop-index.out) (string_bytes c.args.out.now)
    (codes "error: expected ") (items_text 0 (length items) c.args.more (map seen (take c.loop-index.index items)))
    (items_text 0 (length items) c.args.more (map seen (take (c.loop-index.index + 1) items)))
    (between_text c.loop-index.index (length items) c.args.more) _ c.in_ok-add_expected.ensures c.in_ok-add_between.ensures c.loop-index.invariant more
