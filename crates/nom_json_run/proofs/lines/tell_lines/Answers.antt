use Rattle.std.proofs.Common.{arith, ◌≡◌, ◌+◌, Err, Ok, ap, subst}
use Rattle.nom_stream.specs.Streams.{Decides}
use Rattle.nom_stream.specs.ReaderLines.{line_of}
use Rattle.nom_run.specs.Runs.{WritesText}
use Rattle.nom_json_run.specs.JsonLines.{IsLine}
use Rattle.nom_json_run.proofs.Listed.{ended, going_none, going_on, no_more, on_line, on_stop}
use Rattle.nom_json_run.proofs.lines.tell_lines.Goals as goal

pub loop-turn-init : goal.loop-turn-init
loop-turn-init g c = going_none _ _ _

pub returns-in-Ok-None : goal.returns-in-Ok-None
returns-in-Ok-None g c = ended c.loop-turn.invariant c.status_of.result
    (subst (λ f. Decides g.R.Read.remaining line_of c.loop-turn.stream c.next_item.new.self (Ok f)) c.in-Ok-None.field-0-is c.in-Ok-None.ensures.decides)
    c.status_of.ensures

pub returns-in-Err-list : goal.returns-in-Err-list
returns-in-Err-list g c = on_line c.loop-turn.invariant (λ e. ap g.W.ByteWriter.account e) c.in-Ok-Some.used c.in-Ok-Some.inside
    (subst (λ f. Decides g.R.Read.remaining line_of c.loop-turn.stream c.next_item.new.self (Ok f)) c.in-Ok-Some.field-0-is c.in-Ok-Some.ensures.decides)
    (subst (λ z. WritesText (λ text next. IsLine (c.loop-turn.turn + 1) c.in-Ok-Some.inside z text c.loop-turn.wrong next)
    (g.W.ByteWriter.account c.loop-turn.sink) (g.W.ByteWriter.account c.list.new.sink) (c.list.new.sink ≡ c.loop-turn.sink) (Err c.in-Err-list.error))
    c.last.ensures c.in-Err-list.ensures)

pub returns-in-Err : goal.returns-in-Err
returns-in-Err g c = on_stop c.loop-turn.invariant (λ e. ap g.W.ByteWriter.account e) c.in-Err.why c.in-Err.ensures.decides c.stopped.ensures

pub loop-turn-preserved : goal.loop-turn-preserved
loop-turn-preserved g c = going_on c.loop-turn.invariant c.in-Ok-Some.used c.in-Ok-Some.inside
    (subst (λ f. Decides g.R.Read.remaining line_of c.loop-turn.stream c.next_item.new.self (Ok f)) c.in-Ok-Some.field-0-is c.in-Ok-Some.ensures.decides)
    (subst (λ z. WritesText (λ text next. IsLine (c.loop-turn.turn + 1) c.in-Ok-Some.inside z text c.loop-turn.wrong next)
    (g.W.ByteWriter.account c.loop-turn.sink) (g.W.ByteWriter.account c.list.new.sink) (c.list.new.sink ≡ c.loop-turn.sink) (Ok c.in-Ok.next))
    c.last.ensures c.in-Ok.ensures)

pub returns : goal.returns
returns g c = no_more c.loop-turn.invariant (omega (arith, c.loop-turn-test.false))
