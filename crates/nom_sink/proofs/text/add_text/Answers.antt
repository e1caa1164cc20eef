use Rattle.std.proofs.Common.{rules, arith, ap, refl, ◌∙◌}
use Rattle.nom_sink.proofs.Lists.{undone}
use Rattle.nom_sink.proofs.Texts.{text_begun, text_done, text_goes_on, text_room}
use Rattle.nom_sink.proofs.text.add_text.Goals as goal

pub loop-c-init : goal.loop-c-init
loop-c-init g c = record {
  can = search rules;
  finite = search rules;
  on_way = text_begun c.args.text.now _ (g.S.Sink.model.items c.args.out.now) c.utf8.text
      (ap (λ i. i.rest.now) c.into_iter-c-iterator.ensures.into_iter_gives ∙ c.chars-c-items.ensures.rest);
  room = omega arith;
  loan = refl;
}

pub loop-c-preserved : goal.loop-c-preserved
loop-c-preserved g c = record {
  can = search rules;
  finite = search rules;
  on_way = text_goes_on _ _ _ _ _ _ c.in-Some.c c.loop-c.invariant.on_way c.in-Some.ensures.steps.0 c.in-Ok.ensures.written;
  room = omega (arith, c.loop-c.invariant.room, c.in-Ok.ensures.room);
  loan = c.in-Ok.ensures.loan ∙ c.loop-c.invariant.loan;
}

pub returns-in-Err-clause-written : goal.returns-in-Err-clause-written
returns-in-Err-clause-written g c =
    let i = c.loop-c.invariant in
    let w = c.in-Err.ensures.written in (
      undone _ (g.S.Sink.model.items c.args.out.now) i.on_way.done _ _ _ c.len-start.ensures i.on_way.whole w.0 c.truncate.ensures.items,
      (
        w.1.0,
        omega (arith, i.room, w.1.1),
        (
          w.1.2.0,
          text_room _ _ _ _ _ c.in-Some.c w.1.0 i.on_way c.in-Some.ensures.steps.0 w.1.2.1,
        ),
      ),
    )

pub returns-clause-written : goal.returns-clause-written
returns-clause-written g c = text_done _ _ _ _ c.loop-c.invariant.on_way c.in-None.ensures.steps.0.0
