use Rattle.std.proofs.Common.{◌+◌, append-nil, drop, refl, sym}
use Rattle.nom_run.specs.Texts.{lines_text}
use Rattle.nom_run.proofs.Piecewise.{lines_rest, lines_then, puts_both, puts_first, puts_held}
use Rattle.nom_run.proofs.pieces.put_each.Goals as goal

pub loop-item-init : goal.loop-item-init
loop-item-init g c = record { room = c.requires; puts = puts_held (sym (append-nil _)) }

pub returns-in-Err-clause-puts : goal.returns-in-Err-clause-puts
returns-in-Err-clause-puts g c =
    let line = g.P.InPieces.lines c.args.each.now in
    let items = c.args.items.now in
    let at = c.loop-item.item-index in
    puts_both (lines_rest line items at _ c.loop-item-test.true _ c.item-item.is) c.loop-item.invariant.puts
    (puts_first (lines_text line (drop (at + 1) items)) refl c.in-Err.ensures.puts)

pub loop-item-preserved : goal.loop-item-preserved
loop-item-preserved g c = record {
  room = c.in-Ok.ensures.room;
  puts = puts_both (lines_then (g.P.InPieces.lines c.args.each.now) c.args.items.now c.loop-item.item-index _ c.loop-item-test.true _ c.item-item.is)
      c.loop-item.invariant.puts c.in-Ok.ensures.puts;
}
