use Rattle.std.proofs.Common.{arith, ◌∙◌, ◌+◌, Ok, ap, refl, subst, sym, take}
use Rattle.std.specs.Prelude.{vec_capacity}
use Rattle.nom_stream.specs.ReaderLines.{line_of}
use Rattle.nom_stream.specs.Streams.{Decides}
use Rattle.nom_write_stream.proofs.Sending.{sends_none}
use Rattle.nom_messages_run.specs.Sent.{HaltsAt, HaltsLine, halt_by}
use Rattle.nom_messages_run.proofs.SentLines.{none_yet, one_more}
use Rattle.nom_messages_run.proofs.write.write_each.Goals as goal

pub loop-turn-init : goal.loop-turn-init
loop-turn-init g c = record {
  going = none_yet g.R.Read.remaining g.W.Write.contents c.args.stream.now c.args.outgoing.now _;
  flushes = refl;
}

pub returns-in-Some : goal.returns-in-Some
returns-in-Some g c =
    let d = subst (λ f. Decides g.R.Read.remaining line_of c.loop-turn.stream c.next_item.new.self (Ok f)) c.in-Ok-Some.field-0-is
    c.in-Ok-Some.ensures.decides in
    let before = c.loop-turn.invariant.going in
    record {
      sent = record {
        messages = before.messages;
        stream = c.loop-turn.stream;
        outgoing = c.loop-turn.outgoing;
        lines = before.lines;
        nothing = c.in-Some.ensures.sent.0;
        why = HaltsAt.Taken c.inside-line.result.now (vec_capacity c.loop-turn.room)
            (c.in-Ok-Some.used, c.in-Ok-Some.length, d, c.inside-line.ensures ∙ ap (λ z. take c.in-Ok-Some.length z) c.last.ensures) before.within
            (subst (λ n. HaltsLine (vec_capacity c.loop-turn.room) c.loop-turn.outgoing c.write_line.new.outgoing c.inside-line.result.now (n + 1)
            c.in-Some.halt) (sym before.counted) c.in-Some.ensures.sent.1);
        flushes = c.in-Some.ensures.flushes ∙ c.loop-turn.invariant.flushes;
      };
    }

pub returns-in-Ok-None : goal.returns-in-Ok-None
returns-in-Ok-None g c = record {
  sent = record {
    messages = c.loop-turn.invariant.going.messages;
    stream = c.loop-turn.stream;
    outgoing = c.loop-turn.outgoing;
    lines = c.loop-turn.invariant.going.lines;
    nothing = sends_none g.W.Write.contents c.loop-turn.outgoing c.loop-turn.outgoing refl refl;
    why = HaltsAt.Ended (subst (λ f. Decides g.R.Read.remaining line_of c.loop-turn.stream c.next_item.new.self (Ok f)) c.in-Ok-None.field-0-is
        c.in-Ok-None.ensures.decides) (refl, refl) refl;
    flushes = c.loop-turn.invariant.flushes;
  };
}

pub returns-in-Err : goal.returns-in-Err
returns-in-Err g c = record {
  sent = record {
    messages = c.loop-turn.invariant.going.messages;
    stream = c.loop-turn.stream;
    outgoing = c.loop-turn.outgoing;
    lines = c.loop-turn.invariant.going.lines;
    nothing = sends_none g.W.Write.contents c.loop-turn.outgoing c.loop-turn.outgoing refl refl;
    why = HaltsAt.Stopped c.in-Err.why c.in-Err.ensures.decides (refl, refl)
        (c.stopped.ensures ∙ ap (λ n. halt_by (n + 1) c.in-Err.why) (sym c.loop-turn.invariant.going.counted));
    flushes = c.loop-turn.invariant.flushes;
  };
}

pub loop-turn-preserved : goal.loop-turn-preserved
loop-turn-preserved g c =
    let d = subst (λ f. Decides g.R.Read.remaining line_of c.loop-turn.stream c.next_item.new.self (Ok f)) c.in-Ok-Some.field-0-is
    c.in-Ok-Some.ensures.decides in
    let sent = c.in-None.ensures.sent in
    record {
      going = one_more g.R.Read.remaining g.W.Write.contents _ _ _ _ _ _ _ _ _ c.loop-turn.invariant.going c.inside-line.result.now sent.0
          (c.in-Ok-Some.used, c.in-Ok-Some.length, d, c.inside-line.ensures ∙ ap (λ z. take c.in-Ok-Some.length z) c.last.ensures)
          sent.1 sent.2 c.in-None.ensures.room sent.3;
      flushes = c.in-None.ensures.flushes ∙ c.loop-turn.invariant.flushes;
    }

pub returns : goal.returns
returns g c = record {
  sent = record {
    messages = c.loop-turn.invariant.going.messages;
    stream = c.loop-turn.stream;
    outgoing = c.loop-turn.outgoing;
    lines = c.loop-turn.invariant.going.lines;
    nothing = sends_none g.W.Write.contents c.loop-turn.outgoing c.loop-turn.outgoing refl refl;
    why = HaltsAt.Full (omega (arith, c.loop-turn.invariant.going.counted, c.loop-turn-test.false)) refl (refl, refl) refl;
    flushes = c.loop-turn.invariant.flushes;
  };
}
