use Rattle.std.proofs.Common.{arith, ◌≡◌, Some, None, Ok, Err, ◌∙◌, refl, subst}
use Rattle.nom_stream.specs.Streams.{Decides}
use Rattle.nom_messages_run.proofs.Piped.{ended, flushed, goes_on, halts, has_room, none_yet, not_flushed}
use Rattle.nom_messages_run.proofs.pipe.tell_items.Goals as goal

pub returns-in-Err-list-clause-told : goal.returns-in-Err-list-clause-told
returns-in-Err-list-clause-told g c =
    let i = c.loop-turn.invariant in
    halts _ _ i.going c.in-Ok-Some.field-0-is (subst (λ z. Decides g.R.Read.remaining (g.G.ItemParser.grammar z) c.loop-turn.stream c.next_item.new.self
    (Ok c.in-Ok-Some.field-0)) i.kept c.in-Ok-Some.ensures.decides) c.last.ensures
    (λ same few. let first = i.fresh few in (first.0, same ∙ first.1)) c.in-Err-list.ensures.puts

pub returns-in-Ok-None-clause-told : goal.returns-in-Ok-None-clause-told
returns-in-Ok-None-clause-told g c =
    let i = c.loop-turn.invariant in
    ended _ _ i.going None (subst (λ z. Decides g.R.Read.remaining (g.G.ItemParser.grammar z) c.loop-turn.stream c.next_item.new.self (Ok None)) i.kept
    (subst (λ f. Decides g.R.Read.remaining (g.G.ItemParser.grammar (g.G.ItemParser.state c.loop-turn.grammar)) c.loop-turn.stream c.next_item.new.self
    (Ok f)) c.in-Ok-None.field-0-is c.in-Ok-None.ensures.decides))
    (λ h. let first = i.fresh h.1 in (first.0, h.0 ∙ first.1)) c.end.ensures

pub returns-in-Err-clause-told : goal.returns-in-Err-clause-told
returns-in-Err-clause-told g c =
    let i = c.loop-turn.invariant in
    ended _ _ i.going (Some c.in-Err.why) (subst (λ z. Decides g.R.Read.remaining (g.G.ItemParser.grammar z) c.loop-turn.stream c.next_item.new.self
    (Err c.in-Err.why)) i.kept c.in-Err.ensures.decides)
    (λ h. let first = i.fresh h.1 in (first.0, h.0 ∙ first.1)) c.end-in-Err.ensures

pub loop-turn-preserved : goal.loop-turn-preserved
loop-turn-preserved g c =
    let i = c.loop-turn.invariant in
    record {
      few = c.in-Ok.ensures.room.0;
      fresh = λ h. absurd (omega (arith, h, c.in-Ok.ensures.room.1));
      kept = c.in-Ok-Some.ensures.kept ∙ i.kept;
      going = goes_on _ _ i.going c.in-Ok-Some.field-0-is (subst (λ z. Decides g.R.Read.remaining (g.G.ItemParser.grammar z) c.loop-turn.stream
          c.next_item.new.self (Ok c.in-Ok-Some.field-0)) i.kept c.in-Ok-Some.ensures.decides) c.last.ensures c.in-Ok.ensures.puts;
    }

pub returns-in-Ok-flush-clause-told : goal.returns-in-Ok-flush-clause-told
returns-in-Ok-flush-clause-told g c = flushed _ _ c.loop-turn.invariant.going (omega (arith, c.loop-turn-test.false)) c.in-Ok-flush.ensures.puts

pub returns-clause-told : goal.returns-clause-told
returns-clause-told g c = not_flushed _ _ c.loop-turn.invariant.going _ (omega (arith, c.loop-turn-test.false)) c.in-Err-flush.ensures.puts

pub flush-requires : goal.flush-requires
flush-requires g c =
    let i = c.loop-turn.invariant in
    let all : c.loop-turn._turn ≡ 18446744073709551615 = omega (arith, c.loop-turn-test.false) in
    has_room c.loop-turn.room i.few (λ h. absurd (omega (arith, all, (i.fresh h).0)))

pub loop-turn-init : goal.loop-turn-init
loop-turn-init g c = record {
  few = omega (arith, c.new-room.ensures.len);
  fresh = λ h. (refl, refl);
  kept = refl;
  going = none_yet _ _ _ _ _ c.new-room.ensures.items;
}
